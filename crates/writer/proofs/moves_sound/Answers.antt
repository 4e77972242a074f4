use Rattle.std.proofs.Common.{◌≡◌, ◌&&◌, ltb, sym, ap, ◌∙◌, rules, tests}
use Rattle.std.specs.List.{list_all}
use Rattle.std.proofs.Math.Bool.{and-true}
use Rattle.std.proofs.lemmas.Bool.{and_right}
use Rattle.std.proofs.lemmas.Iterator.{YieldsList-from_slice}
use Rattle.std.proofs.lemmas.Iterator.Search.{all_from_yields_List}
use Rattle.std.proofs.lemmas.List.Sorted.{answers_always}
use Rattle.writer.specs.Parts.{move_fits}
use Rattle.writer.proofs.Moves.{sound_split, rises_is}
use Rattle.writer.proofs.moves_sound.Goals as goal

pub returns-then-is_sorted_by : goal.returns-then-is_sorted_by
returns-then-is_sorted_by c =
    let ms = c.args.moves.now in
    let size = c.args.size in
    let rise = rises_is ms c.is_sorted_by.result (c.is_sorted_by.ensures.cases (λ x y. ltb x.label y.label) (answers_always _ _ _ (λ f a r g h. search (rules, tests)))) in
    let each : c.all.result ≡ list_all (move_fits size) ms = all_from_yields_List (move_fits size) _ _ _ c.all.ensures.ran (YieldsList-from_slice ms cc) (λ x b q k. search rules) in
    each ∙ sym (sound_split size 0 ms ∙ ap (λ b. list_all (move_fits size) ms && b) (sym rise ∙ c.if-is_sorted_by.true) ∙ and-true _)

pub returns-else-is_sorted_by : goal.returns-else-is_sorted_by
returns-else-is_sorted_by c =
    let ms = c.args.moves.now in
    let size = c.args.size in
    let rise = rises_is ms c.is_sorted_by.result (c.is_sorted_by.ensures.cases (λ x y. ltb x.label y.label) (answers_always _ _ _ (λ f a r g h. search (rules, tests)))) in
    c.if-is_sorted_by.false ∙ sym (sound_split size 0 ms ∙ and_right (list_all (move_fits size) ms) _ (sym rise ∙ c.if-is_sorted_by.false))

-- The number of a state gives back its player, what remains and what was taken, and the rules at them.
use Rattle.std.proofs.Common.{◌≡◌, ℕ, ◌+◌, ◌-◌, ◌*◌, ◌/◌, ◌%◌, ◌<◌, ◌≤◌, Bool, true, false, cond, ◌&&◌, eqb, leb, Some, None, Option, IfSome, sym, refl, ap, ◌∙◌, subst, ⊎_elim, arith}
use Rattle.std.proofs.lemmas.Bool.{and_parts, and_from, both_ways, leb-true, le-leb, lt-ltb, ltb-true, eqb-true, eq-eqb, ne_eqb, cases_eq, cases_Bool, cond-true, cond_both}
use Rattle.std.proofs.lemmas.Nat.{div-mul-add, mod-mul-add, mod_below, div-add-mod'}
use Rattle.nim.specs.Nims.{nim_size, playable, in_range, number_of, state_of, is_state, player_of, remaining_of, taken_of}
use Rattle.nim.specs.NimLaws.{state_true, true_state, player_le, number_below}
use Rattle.nim.specs.Positions.{Position, Stands, EveryState}
use Rattle.nim.specs.Turns.{IsTurn}

module _ (n j r p : ℕ) (few : r ≤ n) (some : 1 ≤ p) (most : p ≤ n) where
  row_first : number_of n j r p ≡ (j * (n + 1) + r) * n + (p - 1)
  row_first = omega arith

  row_of : number_of n j r p / n ≡ j * (n + 1) + r
  row_of = ap (λ (x : ℕ). x / n) row_first ∙ div-mul-add (j * (n + 1) + r) n (p - 1) (omega arith)

  pub player_back : player_of n (number_of n j r p) ≡ j
  player_back = ap (λ (x : ℕ). x / (n + 1)) row_of ∙ div-mul-add j (n + 1) r (omega arith)

  pub remaining_back : remaining_of n (number_of n j r p) ≡ r
  remaining_back = ap (λ (x : ℕ). x % (n + 1)) row_of ∙ mod-mul-add j (n + 1) r (omega arith)

  pub taken_back : taken_of n (number_of n j r p) ≡ p
  taken_back =
      let e : number_of n j r p % n ≡ p - 1 = ap (λ (x : ℕ). x % n) row_first ∙ mod-mul-add (j * (n + 1) + r) n (p - 1) (omega arith) in
      omega (arith, e)

-- two states have the same number exactly if they are the same
same_number : (n j r p k q t : ℕ) → r ≤ n → 1 ≤ p → p ≤ n → q ≤ n → 1 ≤ t → t ≤ n → eqb (number_of n j r p) (number_of n k q t) ≡ (eqb j k && (eqb r q && eqb p t))
same_number n j r p k q t few some most few' some' most' =
    let here : ℕ = number_of n j r p in
    let there : ℕ = number_of n k q t in
    ⊎_elim
    (λ e.
    let who : j ≡ k = sym (player_back n j r p few some most) ∙ ap (player_of n) e ∙ player_back n k q t few' some' most' in
    let left : r ≡ q = sym (remaining_back n j r p few some most) ∙ ap (remaining_of n) e ∙ remaining_back n k q t few' some' most' in
    let last : p ≡ t = sym (taken_back n j r p few some most) ∙ ap (taken_of n) e ∙ taken_back n k q t few' some' most' in
    eq-eqb here there e ∙ sym (and_from (eqb j k) _ (eq-eqb j k who) (and_from (eqb r q) (eqb p t) (eq-eqb r q left) (eq-eqb p t last))))
    (λ ne.
    ne_eqb here there ne ∙ sym (⊎_elim
    (λ yes.
    let one = and_parts (eqb j k) _ yes in
    let two = and_parts (eqb r q) (eqb p t) one.1 in
    absurd (ne (ap (λ (x : ℕ). number_of n x r p) (eqb-true j k one.0) ∙ (ap (λ (x : ℕ). number_of n k x p) (eqb-true r q two.0) ∙ ap (λ (x : ℕ). number_of n k q x) (eqb-true p t two.1)))))
    (λ no. no)
    (cases_Bool (eqb j k && (eqb r q && eqb p t)))))
    (cases_eq here there)

ranged : (n j r p : ℕ) → 2 ≤ n → n ≤ 44 → j ≤ 1 → r ≤ n → 1 ≤ p → p ≤ n → in_range n j r p ≡ true
ranged n j r p low high who few some most = and_from _ _ (and_from _ _ (le-leb 2 n low) (le-leb n 44 high)) (and_from _ _ (le-leb j 1 who) (and_from _ _ (le-leb r n few) (and_from _ _ (le-leb 1 p some) (le-leb p n most))))

position : (n j r p : ℕ) → 2 ≤ n → n ≤ 44 → j ≤ 1 → r ≤ n → 1 ≤ p → p ≤ n → Position n j r p (number_of n j r p)
position n j r p low high who few some most =
    let s : ℕ = number_of n j r p in
    let here : is_state n s ≡ true = true_state n s (record { low = low; high = high; below = number_below n j r p who few some most }) in
    let j_is : player_of n s ≡ j = player_back n j r p few some most in
    let r_is : remaining_of n s ≡ r = remaining_back n j r p few some most in
    let p_is : taken_of n s ≡ p = taken_back n j r p few some most in
    record {
      inside = ltb-true s (nim_size n) here;
      at_turn = j_is;
      left = r_is;
      last = p_is;
      public = rw (here, j_is) refl;
      start = rw here (same_number n j r p 0 n n few some most (omega arith) (omega arith) (omega arith));
      end = rw (here, r_is) refl;
      goal = rw (here, j_is, r_is) refl;
      next = λ a. rw (here, j_is, r_is, p_is) refl;
    }

pub stands : (n j r p : ℕ) (o : Option ℕ) → o ≡ state_of n j r p → Stands n j r p o
stands n j r p o e =
    let test : Bool = in_range n j r p in
    let found : test ≡ true → Position n j r p (number_of n j r p) = λ h.
    let game = and_parts (playable n) _ h in
    let size = and_parts (leb 2 n) (leb n 44) game.0 in
    let turn = and_parts (leb j 1) _ game.1 in
    let left = and_parts (leb r n) _ turn.1 in
    let last = and_parts (leb 1 p) (leb p n) left.1 in
    position n j r p (leb-true 2 n size.0) (leb-true n 44 size.1) (leb-true j 1 turn.0) (leb-true r n left.0) (leb-true 1 p last.0) (leb-true p n last.1) in
    let missing : test ≡ false → Stands n j r p None = λ h low high who few some most. both_ways test h (ranged n j r p low high who few some most) in
    subst (Stands n j r p) (sym e) (cond_both test (Some (number_of n j r p)) None (Stands n j r p) found missing)

pub every_state : (n : ℕ) → EveryState n
every_state n s h =
    let i = state_true n s (lt-ltb s (nim_size n) h) in
    let few : remaining_of n s < n + 1 = mod_below (s / n) (n + 1) (omega arith) in
    let last : s % n < n = mod_below s n (omega (arith, i.low)) in
    let row : (player_of n s * (n + 1) + remaining_of n s) * n ≡ s / n * n = ap (λ (x : ℕ). x * n) (div-add-mod' (s / n) (n + 1)) in
    let back : number_of n (player_of n s) (remaining_of n s) (taken_of n s) ≡ s = omega (arith, row, div-add-mod' s n) in
    cond-true _ _ _ (ranged n (player_of n s) (remaining_of n s) (taken_of n s) i.low i.high (player_le n s i) (omega arith) (omega arith) (omega arith)) ∙ ap Some back

-- a state is a turn that the game can have
pub possible : (n s : ℕ) (b : Bool) → is_state n s ≡ b → IfSome (cond b (Some (record { player = player_of n s; remaining = remaining_of n s; taken = taken_of n s })) None) (IsTurn n)
possible n s true h =
    let i = state_true n s h in
    let low = i.low in
    let left : remaining_of n s < n + 1 = mod_below (s / n) (n + 1) (omega arith) in
    let last : s % n < n = mod_below s n (omega (arith, low)) in
    record {
      most_matches = i.high;
      player = player_le n s i;
      remaining = omega (arith, left);
      some_taken = omega arith;
      taken = omega (arith, last);
    }
possible n s false h = tt

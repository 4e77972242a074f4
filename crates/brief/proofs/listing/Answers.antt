use Rattle.std.proofs.Common.{◌≡◌, ◌≤◌, length, arith, rules}
use Rattle.law.specs.Answers.{ranking}
use Rattle.law.specs.Log.{barred}
use Rattle.listing.specs.Lines.{listing_text}
use Rattle.brief.proofs.Listings.{cut, nothing}
use Rattle.brief.proofs.listing.Goals as goal

pub returns : goal.returns
returns g c =
    let m = g.G.Game.meaning c.args.watch.now.game in
    record {
      listed =
          λ L lived stands few.
          let fits : length (listing_text m (ranking m (barred L))) ≤ length c.as_mut_slice.result.now =
          omega (arith, (c.list.ensures.right (barred L)).short few, c.in_ok-out.ensures.len, c.as_mut_slice.ensures.len, c.room.ensures) in
          let long : length c.list.new.out ≡ c.in_ok-out.out.len = omega (arith, c.list.auto.out) in
          cut _ _ _ _ _ _ _ _ c.truncate.ensures.items long fits (c.list.ensures.standing L lived stands) (search rules);
      none = λ away. nothing m _ _ _ _ _ _ _ _ c.truncate.ensures.items c.list.ensures.value (search rules) away;
    }

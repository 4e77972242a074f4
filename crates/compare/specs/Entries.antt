-- What a rating shows of a state.
use Rattle.std.specs.Prelude.{Some, None}
use Rattle.law.specs.declared.Rating.{Rating}
use Rattle.law.specs.declared.Rating.TheVariants.{Done, Kiosk, Public, LostEnd, LostKiosk, LostPublic}
use Rattle.oracle.specs.declared.Entry.{Entry}

-- a done state has rank 0, and only a kiosk state has a choice; a lost state has neither
abbrev pub entry_of : Rating → Entry
entry_of Done = record { rank = Some 0; choice = None }
entry_of (Kiosk r l) = record { rank = Some r; choice = Some l }
entry_of (Public r) = record { rank = Some r; choice = None }
entry_of LostEnd = record { rank = None; choice = None }
entry_of LostKiosk = record { rank = None; choice = None }
entry_of (LostPublic l) = record { rank = None; choice = None }

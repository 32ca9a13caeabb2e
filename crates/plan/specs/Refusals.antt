-- What each refusal tells: its number and its two figures, and the rule in words.
use Rattle.std.specs.Prelude.{ℕ, List, Ok, Err, codes, Result}
use Rattle.plan.specs.declared.refusals.Refusal.{Refusal}
use Rattle.plan.specs.declared.refusals.Refusal.TheVariants.{ShortFile, PitCount, DuctCount, FileSize, Ends, Length, Bore, Repeat, Unfit, NoDuct, OffPlan, ShortList, NoWay, BlankPlan, ShortBuffer}

-- a refusal as it is told: its number and its two figures
pub record Told : Type 0 where
  pub number : ℕ
  pub first : ℕ
  pub second : ℕ

-- a refusal with no figures
abbrev pub plain : ℕ → Told
plain n = record { number = n; first = 0; second = 0 }

-- a refusal with the place of a duct
abbrev pub placed : ℕ → ℕ → Told
placed n place = record { number = n; first = place; second = 0 }

abbrev pub told : Refusal → Told
told ShortFile = plain 1
told PitCount = plain 2
told DuctCount = plain 3
told FileSize = plain 4
told (Ends place) = placed 5 place
told (Length place) = placed 6 place
told (Bore place) = placed 7 place
told (Repeat place) = placed 8 place
told (Unfit depth pits) = record { number = 9; first = depth; second = pits }
told NoDuct = plain 10
told OffPlan = plain 11
told ShortList = plain 12
told NoWay = plain 13
told BlankPlan = plain 14
told ShortBuffer = plain 15

-- what a call answers, with a refusal as it is told
abbrev pub heard : {X : Type 0} → Result X Refusal → Result X Told
heard (Ok x) = Ok x
heard (Err e) = Err (told e)

-- the rule that was broken, as a reader is told it
abbrev pub in_words : Refusal → List ℕ
in_words ShortFile = codes "a plan file has at least 4 bytes"
in_words PitCount = codes "a plan has 1 to 512 pits"
in_words DuctCount = codes "a plan has at most 1024 ducts"
in_words FileSize = codes "a plan file has exactly 4 bytes and 10 more for each duct"
in_words (Ends place) = codes "a duct's first end is below its second, and both are pits of the plan"
in_words (Length place) = codes "a duct is 1 to 1000000 centimetres long"
in_words (Bore place) = codes "a duct's bore is 10 to 300 millimetres"
in_words (Repeat place) = codes "no two ducts join the same two pits"
in_words (Unfit depth pits) = codes "the plan's trunk fits the finder"
in_words NoDuct = codes "there is a duct between the two pits"
in_words OffPlan = codes "every pit that is named is on the plan"
in_words ShortList = codes "the list has a place for each pit of the plan"
in_words NoWay = codes "there is a way between the two pits"
in_words BlankPlan = codes "the plan has pits"
in_words ShortBuffer = codes "the buffer is long enough"

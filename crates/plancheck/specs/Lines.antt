-- The lines that the program prints.
use Rattle.std.specs.Prelude.{List, ℕ, [], ◌++◌, codes, decimal}
use Rattle.plan.specs.declared.refusals.Refusal.{Refusal}
use Rattle.plan.specs.declared.refusals.Refusal.TheVariants.{ShortFile, PitCount, DuctCount, FileSize, Ends, Length, Bore, Repeat, Unfit, NoDuct, OffPlan, ShortList, NoWay, BlankPlan, ShortBuffer}
use Rattle.plan.specs.Refusals.{told, in_words}

-- the duct's place, where the refusal is about a duct of the file
abbrev pub place_text : Refusal → List ℕ
place_text ShortFile = []
place_text PitCount = []
place_text DuctCount = []
place_text FileSize = []
place_text (Ends place) = codes " at duct " ++ decimal place
place_text (Length place) = codes " at duct " ++ decimal place
place_text (Bore place) = codes " at duct " ++ decimal place
place_text (Repeat place) = codes " at duct " ++ decimal place
place_text (Unfit depth pits) = []
place_text NoDuct = []
place_text OffPlan = []
place_text ShortList = []
place_text NoWay = []
place_text BlankPlan = []
place_text ShortBuffer = []

-- a refusal: its number, the duct's place, and the rule that was broken
abbrev pub refused_text : Refusal → List ℕ
refused_text r = codes "refused " ++ decimal (told r).number ++ place_text r ++ codes ": " ++ in_words r

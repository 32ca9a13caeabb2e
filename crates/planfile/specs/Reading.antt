-- What a reader has yet to give.
use Rattle.std.specs.Prelude.{List}
use Rattle.plan.specs.declared.ducts.Duct.{Duct}
use Rattle.planfile.specs.declared.reader.Reader.{Reader}
use Rattle.planfile.specs.Format.{duct_count, ducts_from}

-- the ducts to come
abbrev pub to_come : Reader → List Duct
to_come r = ducts_from r.ends.now r.sizes.now 0 (duct_count r.ends.now)

use Rattle.std.proofs.Common.{◌≡◌, ◌+◌, ◌*◌, take}
use Rattle.std.specs.List.{flat_map}
use Rattle.planfile.specs.Format.{ends_of, sizes_of}
use Rattle.planfile.specs.Words.{over}
use Rattle.planfile.proofs.save.put_ducts.Given as goal

-- the ducts so far are written
abbrev pub invariant-loop-duct : goal.invariant-loop-duct
invariant-loop-duct l =
    record {
      ends : l.ends.buffer.now ≡ over l.initial.ends.buffer.now l.initial.ends.at (flat_map ends_of (take l.duct-index l.ducts));
      ends_at : l.ends.at ≡ l.initial.ends.at + 4 * l.duct-index;
      ends_reference : l.ends.buffer.ghost_name ≡ l.initial.ends.buffer.ghost_name;
      sizes : l.sizes.buffer.now ≡ over l.initial.sizes.buffer.now l.initial.sizes.at (flat_map sizes_of (take l.duct-index l.ducts));
      sizes_at : l.sizes.at ≡ l.initial.sizes.at + 6 * l.duct-index;
      sizes_reference : l.sizes.buffer.ghost_name ≡ l.initial.sizes.buffer.ghost_name;
    }

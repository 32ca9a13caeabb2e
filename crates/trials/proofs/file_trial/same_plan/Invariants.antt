use Rattle.std.proofs.Common.{◌≤◌, length}
use Rattle.trials.proofs.file_trial.same_plan.Given as goal

abbrev pub invariant-loop-duct : goal.invariant-loop-duct
invariant-loop-duct l = length l.input ≤ length l.initial.input

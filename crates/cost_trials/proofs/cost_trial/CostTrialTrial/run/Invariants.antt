use Rattle.std.proofs.Common.{◌<◌, ◌≤◌, length}
use Rattle.cost_trials.proofs.cost_trial.CostTrialTrial.run.Given as goal

abbrev pub invariant-loop : goal.invariant-loop
invariant-loop l = record {
  reads : length l.input < length l.fn.input;
  agrees : l.total.agreed ≤ l.total.tried;
}

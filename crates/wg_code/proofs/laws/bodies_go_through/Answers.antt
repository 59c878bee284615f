use Rattle.wg_code.proofs.LaneAlike.{lane_never_wrong, lane_tests_nothing, lane_fits}
use Rattle.wg_code.proofs.laws.bodies_go_through.Goals as goal

pub returns-clause-right : goal.returns-clause-right
returns-clause-right c = λ code body frame buffers turns checked good fits. lane_never_wrong code body frame buffers turns checked good fits

pub returns-clause-same : goal.returns-clause-same
returns-clause-same c = λ code body frame buffers turns checked good fits. lane_tests_nothing code body frame buffers turns checked good fits

pub returns-clause-fits : goal.returns-clause-fits
returns-clause-fits c = λ code body frame buffers turns after left other checked good fits made others. lane_fits code body frame buffers turns checked good fits after left other made others

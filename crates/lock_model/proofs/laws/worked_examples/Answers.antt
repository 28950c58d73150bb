use Rattle.std.proofs.Common.{refl}
use Rattle.lock_model.proofs.laws.worked_examples.Goals as goal

-- each by computing
pub returns : goal.returns
returns c = record {
  first_reader = refl;
  repeated_request = refl;
  writer_behind_reader = refl;
  released_reader = refl;
  late_request = refl;
  released_stranger = refl;
  reader_passes = refl;
  reader_waits = refl;
  release_settles = refl;
  muddled_request = refl;
  next_attempt = refl;
  softened_holder = refl;
  softened_before_writer = refl;
  softened_waiter = refl;
  softened_request = refl;
  muddled_softened_request = refl;
  softened_stranger = refl;
  switched_to_first = refl;
  switched_to_second = refl;
  weighted_votes = (refl, refl, refl, refl);
  larger_votes = (refl, refl, refl);
}

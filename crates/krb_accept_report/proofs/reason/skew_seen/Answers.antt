use Rattle.std.proofs.Common.{append_assoc, to_z-of_z}
use Rattle.krb_accept_report.proofs.reason.skew_seen.Goals as goal

pub returns : goal.returns
returns c = (
  c.in_ok-moment.moment.items,
  c.distance_of-seconds.result.seconds,
  c.distance_of-seconds.result.side.now,
  simp (to_z-of_z, c.ranges.time) at c.in_ok-moment.ensures,
  simp (to_z-of_z, c.ranges.time, c.ranges.clock) at c.distance_of-seconds.ensures,
  simp (
    c.in_ok-extend_from_slice-6.ensures.items,
    c.in_ok-push_number-2.ensures,
    c.in_ok-extend_from_slice-5.ensures.items,
    c.in_ok-extend_from_slice-4.ensures.items,
    c.as_bytes-2.ensures.value,
    c.in_ok-push_number.ensures,
    c.in_ok-extend_from_slice-3.ensures.items,
    c.in_ok-extend_from_slice-2.ensures.items,
    c.deref.ensures.value,
    c.in_ok-extend_from_slice.ensures.items,
    c.in_ok-text.ensures.items,
    c.as_bytes.ensures.value,
    c.text.ensures,
    c.from.ensures,
    append_assoc,
  ),
)

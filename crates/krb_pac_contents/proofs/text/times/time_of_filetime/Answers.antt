use Rattle.std.proofs.Common.{◌∙◌, arith, w64}
use Rattle.std.proofs.lemmas.Int.{to_z-of_z}
use Rattle.krb_pac_contents.proofs.FileTimes.{seconds_of_time}
use Rattle.krb_pac_contents.proofs.text.times.time_of_filetime.Goals as goal

pub returns-in-Err : goal.returns-in-Err
returns-in-Err c = (
  λ e. absurd (omega (arith, e, c.if-filetime-eq9223372036854775807.false)),
  λ t units h. c.in-Err.ensures.rejected.1 t h.0 (seconds_of_time c.args.filetime t units _ (to_z-of_z w64 c.unix_seconds_of.result (record { sfits = c.unix_seconds_of.type_inv }) ∙ c.unix_seconds_of.ensures) h),
)

use Rattle.std.proofs.Common.{◌+◌, length, refl}
use Rattle.std.specs.Int.{to_be_bytes, w16}
use Rattle.krb_messages.proofs.kpasswd.laws.written_frames.Goals as goal

pub returns : goal.returns
returns c = λ ap priv. record { whole = to_be_bytes w16 (6 + (length ap + length priv)); first = to_be_bytes w16 (length ap); whole_long = refl; first_long = refl; parts = refl }

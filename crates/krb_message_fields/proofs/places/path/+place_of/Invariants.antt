use Rattle.std.proofs.Common.{length}
use Rattle.krb_message_fields.proofs.places.path.+place_of.Given as goal

abbrev pub decreases-place_of : goal.decreases-place_of
decreases-place_of l = length l.path.now

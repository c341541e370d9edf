use Rattle.krb_show_tokens.proofs.OneFrame.{of_none}
use Rattle.krb_show_tokens.proofs.PlacesAdded.{no_kpasswd}
use Rattle.krb_show_tokens.proofs.kpasswd.places.places_of_password_frame.Goals as goal

pub returns-in_default : goal.returns-in_default
returns-in_default c = no_kpasswd c.args.octets.now _ (of_none c.messages_in.result _ _ c.messages_in.ensures c.in_default.is) (search)

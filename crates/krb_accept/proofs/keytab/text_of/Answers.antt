use Rattle.std.proofs.Common.{sym}
use Rattle.std.proofs.lemmas.Str.{IsUtf8-from_ascii}
use Rattle.krb_accept.proofs.Texts.{ascii}
use Rattle.krb_accept.proofs.keytab.text_of.Goals as goal

-- octets of ASCII are UTF-8
pub returns-in_default : goal.returns-in_default
returns-in_default c = absurd (c.in_default.ensures.cases.0 (IsUtf8-from_ascii c.args.octets.now (ascii c.args.octets.now (sym c.if-not-is_text.ensures))))

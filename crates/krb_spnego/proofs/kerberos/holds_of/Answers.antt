use Rattle.krb_spnego.proofs.ContextMics.{not_held}
use Rattle.krb_spnego.proofs.kerberos.holds_of.Goals as goal

-- another reason than memory
pub returns-else-is_wanting : goal.returns-else-is_wanting
returns-else-is_wanting c =
    not_held c.args.accepted.now c.args.text.now c.args.mic.now c.in-Some.key c.verify_mic.result c.in-Err.error c.in-Some.ensures c.in-Err.is
    c.verify_mic.ensures.only (c.is_wanting.ensures c.if-is_wanting.false)

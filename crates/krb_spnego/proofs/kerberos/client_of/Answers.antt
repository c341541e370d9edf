use Rattle.std.proofs.Common.{◌∙◌, refl, sym}
use Rattle.krb_spnego.proofs.kerberos.client_of.Goals as goal

pub returns-then-is_dce_style-clause-refused : goal.returns-then-is_dce_style-clause-refused
returns-then-is_dce_style-clause-refused c =
    (c.in-Ok.shown, rw (sym c.deref.ensures.value, sym c.deref-2.ensures.value) c.in-Ok.ensures.found, sym c.is_dce_style.ensures ∙ c.if-is_dce_style.true)

pub returns-else-is_dce_style-clause-found : goal.returns-else-is_dce_style-clause-found
returns-else-is_dce_style-clause-found c =
    (c.in-Ok.shown, (rw (sym c.deref.ensures.value, sym c.deref-2.ensures.value) c.in-Ok.ensures.found, (sym c.is_dce_style.ensures ∙ c.if-is_dce_style.false, refl)))

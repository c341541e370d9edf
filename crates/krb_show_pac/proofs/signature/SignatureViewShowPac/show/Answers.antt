use Rattle.krb_show_pac.proofs.signature.SignatureViewShowPac.show.Goals as goal

pub returns-clause-ok : goal.returns-clause-ok
returns-clause-ok c =
    rw (c.signature_type.ensures, c.signature.ensures.octets, c.rodc_identifier.ensures) at c.show_struct.ensures.ok

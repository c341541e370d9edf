use Rattle.krb_show_pages.proofs.files.ticket.TypedOctetsShowAuthorizationElement.show.Goals as goal

pub returns-clause-ok : goal.returns-clause-ok
returns-clause-ok c = rw (c.typed_fields-fields.ensures.kind, c.typed_fields-fields.ensures.octets) at c.show_struct.ensures.ok

use Rattle.krb_show_pages.proofs.files.ccache.CredentialViewShowFile.show.Goals as goal

pub returns-clause-ok : goal.returns-clause-ok
returns-clause-ok c =
    rw (
      c.is_removed.ensures,
      c.new.ensures,
      c.client.ensures,
      c.new-2.ensures,
      c.server.ensures,
      c.from.ensures,
      c.etype.ensures,
      c.key.ensures,
      c.times_fields-times.ensures.authtime,
      c.times_fields-times.ensures.starttime,
      c.times_fields-times.ensures.endtime,
      c.times_fields-times.ensures.renew_till,
      c.times.ensures,
      c.from-2.ensures,
      c.is_skey.ensures,
      c.flags.ensures,
      c.addresses.ensures,
      c.authorization_data.ensures,
      c.ticket.ensures,
      c.second_ticket.ensures,
    ) at c.show_struct.ensures.ok

use Rattle.krb_show_pages.proofs.files.keytab.EntryViewShowFile.show.Goals as goal

pub returns-clause-ok : goal.returns-clause-ok
returns-clause-ok c =
    rw (
      c.name_type.ensures,
      c.realm.ensures,
      c.components.ensures,
      c.timestamp.ensures,
      c.kvno.ensures,
      c.from.ensures,
      c.etype.ensures,
      c.key.ensures,
    ) at c.show_struct.ensures.ok

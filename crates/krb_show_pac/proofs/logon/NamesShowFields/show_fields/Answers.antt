use Rattle.krb_show_pac.proofs.logon.NamesShowFields.show_fields.Goals as goal

pub returns-clause-ok : goal.returns-clause-ok
returns-clause-ok c =
    rw (
      c.effective_name.ensures,
      c.full_name.ensures,
      c.logon_script.ensures,
      c.profile_path.ensures,
      c.home_directory.ensures,
      c.home_directory_drive.ensures,
    ) at c.show_fields.ensures.ok

use Rattle.krb_show_pages.proofs.files.ccache.CcacheViewShowFile.show.Goals as goal

pub returns-clause-ok : goal.returns-clause-ok
returns-clause-ok c =
    rw (
      c.version_number-version.ensures,
      c.version.ensures,
      c.deref.ensures.value,
      c.in_ok-header.ensures,
      c.new-principal.ensures,
      c.principal.ensures,
      c.deref-2.ensures.value,
      c.in_ok-credentials.ensures,
    ) at c.show_parts.ensures.ok

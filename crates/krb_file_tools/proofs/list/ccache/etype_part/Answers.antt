use Rattle.std.proofs.Common.{codes, rules}
use Rattle.krb_file_tools.proofs.Pieces.{etype_pieces}
use Rattle.krb_file_tools.proofs.list.ccache.etype_part.Goals as goal

pub returns-clause-part : goal.returns-clause-part
returns-clause-part g c = (
  c.in_ok-session.session.items,
  c.in_ok-sealed.sealed.items,
  search rules,
  search rules,
  etype_pieces c.in_ok-part.part.items (codes "  Etype (skey, tkt): ") c.as_slice.result.now (codes ", ") c.as_slice-2.result.now c.in_ok-session.session.items
      c.in_ok-sealed.sealed.items c.in_ok-part.ensures c.as_slice.ensures.value c.as_slice-2.ensures.value,
)

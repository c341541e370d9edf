use Rattle.krb_file_tools.proofs.Backs.{made}
use Rattle.krb_file_tools.proofs.convert.ccache.kirbi_of.Goals as goal

pub returns : goal.returns
returns c = (
  c.message_of-message.result,
  c.part_of-part.result,
  made _ c.args.entries.tickets.items c.args.entries.infos.items c.message_of-message.result c.part_of-part.result c.clear_of-clear.result c.in_ok-octets_of.field-0.items
      c.message_of-message.ensures.pvno c.message_of-message.ensures.msg_type c.message_of-message.ensures.tickets c.message_of-message.ensures.part c.clear_of-clear.ensures.etype c.clear_of-clear.ensures.no_kvno
      c.clear_of-clear.ensures.cipher c.in_ok-octets_of.ensures c.part_of-part.ensures.infos c.part_of-part.ensures.no_numbers.0 c.part_of-part.ensures.no_numbers.1
      c.part_of-part.ensures.no_numbers.2 c.part_of-part.ensures.no_addresses.0 c.part_of-part.ensures.no_addresses.1,
  c.in_ok-octets.ensures,
)

use Rattle.krb_show_row_laws.proofs.ReplyLaws.{info_is_reply, pack_is_reply, replies_tell}
use Rattle.krb_show_row_laws.proofs.laws.texts_of_replies_tell_octets.Goals as goal

pub returns : goal.returns
returns c = record {
  told = replies_tell;
  dh_info = λ v. info_is_reply _;
  enc_key_pack = λ v. pack_is_reply v;
}

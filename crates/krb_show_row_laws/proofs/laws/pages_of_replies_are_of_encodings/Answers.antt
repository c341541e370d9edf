use Rattle.std.proofs.Common.{refl, ap}
use Rattle.krb_der_core.specs.Tlv.{tlv}
use Rattle.krb_pkinit.specs.contracts.pkinit.answers.PaPkAsRepDerEncode.TheImpl.{ghosts}
use Rattle.krb_show_row_laws.proofs.PublicKeyRows.{dh_rep_info_same, dh_rep_info_valid, dh_rep_info_right}
use Rattle.krb_show_row_laws.proofs.ReplyRows.{reply_takes}
use Rattle.krb_show_row_laws.proofs.laws.pages_of_replies_are_of_encodings.Goals as goal

pub returns : goal.returns
returns c = reply_takes {t = ghosts} (record {
  info_enc = λ v. ap (tlv 160) (dh_rep_info_same v);
  info_to = dh_rep_info_valid;
  info_of = dh_rep_info_right;
  pack_enc = λ v. refl;
  pack_to = λ v h. h.0;
  pack_of = λ v h. (h, refl);
  firsts = λ u. refl;
  error_of = λ u content e h. h;
})

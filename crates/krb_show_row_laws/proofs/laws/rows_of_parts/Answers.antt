use Rattle.std.proofs.Common.{refl, ap, codes, lit≤}
use Rattle.krb_der_core.specs.Tlv.{tlv}
use Rattle.krb_schema.specs.Types.{shapes, types}
use Rattle.krb_show_row_laws.proofs.Codecs.{tagged}
use Rattle.krb_show_row_laws.proofs.CodecRows.{tagged_tie}
use Rattle.krb_show_row_laws.proofs.FaultRows.{application_refused}
use Rattle.krb_show_row_laws.proofs.TiedTypes.{tied}
use Rattle.krb_show_row_laws.proofs.PartRows.{enc_ticket_part, enc_ticket_part_tie, enc_ticket_part_same, enc_ticket_part_valid, enc_ticket_part_right, authenticator, authenticator_tie, authenticator_same, authenticator_valid, authenticator_right, enc_ap_rep_part, enc_ap_rep_part_tie, enc_ap_rep_part_same, enc_ap_rep_part_valid, enc_ap_rep_part_right, enc_krb_priv_part, enc_krb_priv_part_tie, enc_krb_priv_part_same, enc_krb_priv_part_valid, enc_krb_priv_part_right, enc_krb_cred_part, enc_krb_cred_part_tie, enc_krb_cred_part_same, enc_krb_cred_part_valid, enc_krb_cred_part_right, krb_cred_info, krb_cred_info_tie, krb_cred_info_same, krb_cred_info_valid, krb_cred_info_right}
use Rattle.krb_show_row_laws.proofs.PartErrors.{enc_ticket_part_refused, authenticator_refused, enc_ap_rep_part_refused, enc_krb_priv_part_refused, enc_krb_cred_part_refused, krb_cred_info_refused}
use Rattle.krb_show_row_laws.proofs.laws.rows_of_parts.Goals as goal

pub returns-clause-authenticator : goal.returns-clause-authenticator
unfolding shapes types
returns-clause-authenticator c = tied (tagged 98 authenticator) (codes "Authenticator") 67 refl (λ schema k. tagged_tie schema k 63 67 98 66 _ refl (authenticator_tie schema k 59)) (record {
  to = λ v. v;
  of = λ v. v;
  enc_to = λ v. ap (tlv 98) (authenticator_same v);
  enc_of = λ v. ap (tlv 98) (authenticator_same v);
  valid_to = λ v h. authenticator_valid v h.0;
  valid_of = λ v h. (authenticator_right v h, lit≤ tt);
}) (λ schema k. application_refused schema k 63 67 2 66 _ refl (lit≤ tt) refl (authenticator_refused schema k 59))

pub returns-clause-enc_ticket_part : goal.returns-clause-enc_ticket_part
unfolding shapes types
returns-clause-enc_ticket_part c = tied (tagged 99 enc_ticket_part) (codes "EncTicketPart") 30 refl (λ schema k. tagged_tie schema k 63 30 99 29 _ refl (enc_ticket_part_tie schema k 59)) (record {
  to = λ v. v;
  of = λ v. v;
  enc_to = λ v. ap (tlv 99) (enc_ticket_part_same v);
  enc_of = λ v. ap (tlv 99) (enc_ticket_part_same v);
  valid_to = λ v h. enc_ticket_part_valid v h.0;
  valid_of = λ v h. (enc_ticket_part_right v h, lit≤ tt);
}) (λ schema k. application_refused schema k 63 30 3 29 _ refl (lit≤ tt) refl (enc_ticket_part_refused schema k 59))

pub returns-clause-enc_ap_rep_part : goal.returns-clause-enc_ap_rep_part
unfolding shapes types
returns-clause-enc_ap_rep_part c = tied (tagged 123 enc_ap_rep_part) (codes "EncAPRepPart") 72 refl (λ schema k. tagged_tie schema k 63 72 123 71 _ refl (enc_ap_rep_part_tie schema k 60)) (record {
  to = λ v. v;
  of = λ v. v;
  enc_to = λ v. ap (tlv 123) (enc_ap_rep_part_same v);
  enc_of = λ v. ap (tlv 123) (enc_ap_rep_part_same v);
  valid_to = λ v h. enc_ap_rep_part_valid v h.0;
  valid_of = λ v h. (enc_ap_rep_part_right v h, lit≤ tt);
}) (λ schema k. application_refused schema k 63 72 27 71 _ refl (lit≤ tt) refl (enc_ap_rep_part_refused schema k 60))

pub returns-clause-enc_krb_priv_part : goal.returns-clause-enc_krb_priv_part
unfolding shapes types
returns-clause-enc_krb_priv_part c = tied (tagged 124 enc_krb_priv_part) (codes "EncKrbPrivPart") 77 refl (λ schema k. tagged_tie schema k 63 77 124 76 _ refl (enc_krb_priv_part_tie schema k 60)) (record {
  to = λ v. v;
  of = λ v. v;
  enc_to = λ v. ap (tlv 124) (enc_krb_priv_part_same v);
  enc_of = λ v. ap (tlv 124) (enc_krb_priv_part_same v);
  valid_to = λ v h. enc_krb_priv_part_valid v h.0;
  valid_of = λ v h. (enc_krb_priv_part_right v h, lit≤ tt);
}) (λ schema k. application_refused schema k 63 77 28 76 _ refl (lit≤ tt) refl (enc_krb_priv_part_refused schema k 60))

pub returns-clause-enc_krb_cred_part : goal.returns-clause-enc_krb_cred_part
unfolding shapes types
returns-clause-enc_krb_cred_part c = tied (tagged 125 enc_krb_cred_part) (codes "EncKrbCredPart") 83 refl (λ schema k. tagged_tie schema k 63 83 125 82 _ refl (enc_krb_cred_part_tie schema k 57)) (record {
  to = λ v. v;
  of = λ v. v;
  enc_to = λ v. ap (tlv 125) (enc_krb_cred_part_same v);
  enc_of = λ v. ap (tlv 125) (enc_krb_cred_part_same v);
  valid_to = λ v h. enc_krb_cred_part_valid v h.0;
  valid_of = λ v h. (enc_krb_cred_part_right v h, lit≤ tt);
}) (λ schema k. application_refused schema k 63 83 29 82 _ refl (lit≤ tt) refl (enc_krb_cred_part_refused schema k 57))

pub returns-clause-krb_cred_info : goal.returns-clause-krb_cred_info
unfolding shapes types
returns-clause-krb_cred_info c = tied krb_cred_info (codes "KrbCredInfo") 84 refl (λ schema k. krb_cred_info_tie schema k 60) (record {
  to = λ v. v;
  of = λ v. v;
  enc_to = krb_cred_info_same;
  enc_of = krb_cred_info_same;
  valid_to = krb_cred_info_valid;
  valid_of = krb_cred_info_right;
}) (λ schema k. krb_cred_info_refused schema k 60)

use Rattle.std.proofs.Common.{refl, ap, codes, lit≤}
use Rattle.krb_der_core.specs.Tlv.{tlv}
use Rattle.krb_schema.specs.Types.{shapes, types}
use Rattle.krb_show_row_laws.proofs.Codecs.{tagged}
use Rattle.krb_show_row_laws.proofs.CodecRows.{tagged_tie}
use Rattle.krb_show_row_laws.proofs.FaultRows.{application_refused}
use Rattle.krb_show_row_laws.proofs.TiedTypes.{tied}
use Rattle.krb_show_row_laws.proofs.MessageRows.{kdc_req_as, kdc_req_as_tie, kdc_req_as_same, kdc_req_as_valid, kdc_req_as_right, kdc_req_tgs, kdc_req_tgs_tie, kdc_req_tgs_same, kdc_req_tgs_valid, kdc_req_tgs_right, kdc_req_body, kdc_req_body_tie, kdc_req_body_same, kdc_req_body_valid, kdc_req_body_right, kdc_rep_as, kdc_rep_as_tie, kdc_rep_as_same, kdc_rep_as_valid, kdc_rep_as_right, kdc_rep_tgs, kdc_rep_tgs_tie, kdc_rep_tgs_same, kdc_rep_tgs_valid, kdc_rep_tgs_right, enc_kdc_rep_part, enc_kdc_rep_part_tie, enc_kdc_rep_part_same, enc_kdc_rep_part_valid, enc_kdc_rep_part_right, ap_req, ap_req_tie, ap_req_same, ap_req_valid, ap_req_right, ap_rep, ap_rep_tie, ap_rep_same, ap_rep_valid, ap_rep_right, krb_priv, krb_priv_tie, krb_priv_same, krb_priv_valid, krb_priv_right, krb_cred, krb_cred_tie, krb_cred_same, krb_cred_valid, krb_cred_right, krb_error, krb_error_tie, krb_error_same, krb_error_valid, krb_error_right, tgt_req, tgt_req_tie, tgt_req_same, tgt_req_valid, tgt_req_right, tgt_rep, tgt_rep_tie, tgt_rep_same, tgt_rep_valid, tgt_rep_right, kdc_proxy_message, kdc_proxy_message_tie, kdc_proxy_message_same, kdc_proxy_message_valid, kdc_proxy_message_right}
use Rattle.krb_show_row_laws.proofs.MessageErrors.{kdc_req_as_refused, kdc_req_tgs_refused, kdc_req_body_refused, kdc_rep_as_refused, kdc_rep_tgs_refused, enc_kdc_rep_part_refused, ap_req_refused, ap_rep_refused, krb_priv_refused, krb_cred_refused, krb_error_refused, tgt_req_refused, tgt_rep_refused, kdc_proxy_message_refused}
use Rattle.krb_show_row_laws.proofs.laws.rows_of_messages.Goals as goal

pub returns-clause-as_req : goal.returns-clause-as_req
unfolding shapes types
returns-clause-as_req c = tied (tagged 106 kdc_req_as) (codes "AS-REQ") 42 refl (λ schema k. tagged_tie schema k 63 42 106 46 _ refl (kdc_req_as_tie schema k 55)) (record {
  to = λ v. v;
  of = λ v. v;
  enc_to = λ v. ap (tlv 106) (kdc_req_as_same v);
  enc_of = λ v. ap (tlv 106) (kdc_req_as_same v);
  valid_to = λ v h. kdc_req_as_valid v h.0;
  valid_of = λ v h. (kdc_req_as_right v h, lit≤ tt);
}) (λ schema k. application_refused schema k 63 42 10 46 _ refl (lit≤ tt) refl (kdc_req_as_refused schema k 55))

pub returns-clause-as_rep : goal.returns-clause-as_rep
unfolding shapes types
returns-clause-as_rep c = tied (tagged 107 kdc_rep_as) (codes "AS-REP") 52 refl (λ schema k. tagged_tie schema k 63 52 107 55 _ refl (kdc_rep_as_tie schema k 57)) (record {
  to = λ v. v;
  of = λ v. v;
  enc_to = λ v. ap (tlv 107) (kdc_rep_as_same v);
  enc_of = λ v. ap (tlv 107) (kdc_rep_as_same v);
  valid_to = λ v h. kdc_rep_as_valid v h.0;
  valid_of = λ v h. (kdc_rep_as_right v h, lit≤ tt);
}) (λ schema k. application_refused schema k 63 52 11 55 _ refl (lit≤ tt) refl (kdc_rep_as_refused schema k 57))

pub returns-clause-tgs_req : goal.returns-clause-tgs_req
unfolding shapes types
returns-clause-tgs_req c = tied (tagged 108 kdc_req_tgs) (codes "TGS-REQ") 43 refl (λ schema k. tagged_tie schema k 63 43 108 48 _ refl (kdc_req_tgs_tie schema k 55)) (record {
  to = λ v. v;
  of = λ v. v;
  enc_to = λ v. ap (tlv 108) (kdc_req_tgs_same v);
  enc_of = λ v. ap (tlv 108) (kdc_req_tgs_same v);
  valid_to = λ v h. kdc_req_tgs_valid v h.0;
  valid_of = λ v h. (kdc_req_tgs_right v h, lit≤ tt);
}) (λ schema k. application_refused schema k 63 43 12 48 _ refl (lit≤ tt) refl (kdc_req_tgs_refused schema k 55))

pub returns-clause-tgs_rep : goal.returns-clause-tgs_rep
unfolding shapes types
returns-clause-tgs_rep c = tied (tagged 109 kdc_rep_tgs) (codes "TGS-REP") 53 refl (λ schema k. tagged_tie schema k 63 53 109 57 _ refl (kdc_rep_tgs_tie schema k 57)) (record {
  to = λ v. v;
  of = λ v. v;
  enc_to = λ v. ap (tlv 109) (kdc_rep_tgs_same v);
  enc_of = λ v. ap (tlv 109) (kdc_rep_tgs_same v);
  valid_to = λ v h. kdc_rep_tgs_valid v h.0;
  valid_of = λ v h. (kdc_rep_tgs_right v h, lit≤ tt);
}) (λ schema k. application_refused schema k 63 53 13 57 _ refl (lit≤ tt) refl (kdc_rep_tgs_refused schema k 57))

pub returns-clause-kdc_req_body : goal.returns-clause-kdc_req_body
unfolding shapes types
returns-clause-kdc_req_body c = tied kdc_req_body (codes "KDC-REQ-BODY") 51 refl (λ schema k. kdc_req_body_tie schema k 57) (record {
  to = λ v. v;
  of = λ v. v;
  enc_to = kdc_req_body_same;
  enc_of = kdc_req_body_same;
  valid_to = kdc_req_body_valid;
  valid_of = kdc_req_body_right;
}) (λ schema k. kdc_req_body_refused schema k 57)

pub returns-clause-enc_as_rep_part : goal.returns-clause-enc_as_rep_part
unfolding shapes types
returns-clause-enc_as_rep_part c = tied (tagged 121 enc_kdc_rep_part) (codes "EncASRepPart") 58 refl (λ schema k. tagged_tie schema k 63 58 121 60 _ refl (enc_kdc_rep_part_tie schema k 59)) (record {
  to = λ v. v;
  of = λ v. v;
  enc_to = λ v. ap (tlv 121) (enc_kdc_rep_part_same v);
  enc_of = λ v. ap (tlv 121) (enc_kdc_rep_part_same v);
  valid_to = λ v h. enc_kdc_rep_part_valid v h.0;
  valid_of = λ v h. (enc_kdc_rep_part_right v h, lit≤ tt);
}) (λ schema k. application_refused schema k 63 58 25 60 _ refl (lit≤ tt) refl (enc_kdc_rep_part_refused schema k 59))

pub returns-clause-enc_tgs_rep_part : goal.returns-clause-enc_tgs_rep_part
unfolding shapes types
returns-clause-enc_tgs_rep_part c = tied (tagged 122 enc_kdc_rep_part) (codes "EncTGSRepPart") 59 refl (λ schema k. tagged_tie schema k 63 59 122 60 _ refl (enc_kdc_rep_part_tie schema k 59)) (record {
  to = λ v. v;
  of = λ v. v;
  enc_to = λ v. ap (tlv 122) (enc_kdc_rep_part_same v);
  enc_of = λ v. ap (tlv 122) (enc_kdc_rep_part_same v);
  valid_to = λ v h. enc_kdc_rep_part_valid v h.0;
  valid_of = λ v h. (enc_kdc_rep_part_right v h, lit≤ tt);
}) (λ schema k. application_refused schema k 63 59 26 60 _ refl (lit≤ tt) refl (enc_kdc_rep_part_refused schema k 59))

pub returns-clause-ap_req : goal.returns-clause-ap_req
unfolding shapes types
returns-clause-ap_req c = tied (tagged 110 ap_req) (codes "AP-REQ") 65 refl (λ schema k. tagged_tie schema k 63 65 110 64 _ refl (ap_req_tie schema k 57)) (record {
  to = λ v. v;
  of = λ v. v;
  enc_to = λ v. ap (tlv 110) (ap_req_same v);
  enc_of = λ v. ap (tlv 110) (ap_req_same v);
  valid_to = λ v h. ap_req_valid v h.0;
  valid_of = λ v h. (ap_req_right v h, lit≤ tt);
}) (λ schema k. application_refused schema k 63 65 14 64 _ refl (lit≤ tt) refl (ap_req_refused schema k 57))

pub returns-clause-ap_rep : goal.returns-clause-ap_rep
unfolding shapes types
returns-clause-ap_rep c = tied (tagged 111 ap_rep) (codes "AP-REP") 70 refl (λ schema k. tagged_tie schema k 63 70 111 69 _ refl (ap_rep_tie schema k 60)) (record {
  to = λ v. v;
  of = λ v. v;
  enc_to = λ v. ap (tlv 111) (ap_rep_same v);
  enc_of = λ v. ap (tlv 111) (ap_rep_same v);
  valid_to = λ v h. ap_rep_valid v h.0;
  valid_of = λ v h. (ap_rep_right v h, lit≤ tt);
}) (λ schema k. application_refused schema k 63 70 15 69 _ refl (lit≤ tt) refl (ap_rep_refused schema k 60))

pub returns-clause-krb_priv : goal.returns-clause-krb_priv
unfolding shapes types
returns-clause-krb_priv c = tied (tagged 117 krb_priv) (codes "KRB-PRIV") 75 refl (λ schema k. tagged_tie schema k 63 75 117 74 _ refl (krb_priv_tie schema k 60)) (record {
  to = λ v. v;
  of = λ v. v;
  enc_to = λ v. ap (tlv 117) (krb_priv_same v);
  enc_of = λ v. ap (tlv 117) (krb_priv_same v);
  valid_to = λ v h. krb_priv_valid v h.0;
  valid_of = λ v h. (krb_priv_right v h, lit≤ tt);
}) (λ schema k. application_refused schema k 63 75 21 74 _ refl (lit≤ tt) refl (krb_priv_refused schema k 60))

pub returns-clause-krb_cred : goal.returns-clause-krb_cred
unfolding shapes types
returns-clause-krb_cred c = tied (tagged 118 krb_cred) (codes "KRB-CRED") 80 refl (λ schema k. tagged_tie schema k 63 80 118 79 _ refl (krb_cred_tie schema k 56)) (record {
  to = λ v. v;
  of = λ v. v;
  enc_to = λ v. ap (tlv 118) (krb_cred_same v);
  enc_of = λ v. ap (tlv 118) (krb_cred_same v);
  valid_to = λ v h. krb_cred_valid v h.0;
  valid_of = λ v h. (krb_cred_right v h, lit≤ tt);
}) (λ schema k. application_refused schema k 63 80 22 79 _ refl (lit≤ tt) refl (krb_cred_refused schema k 56))

pub returns-clause-krb_error : goal.returns-clause-krb_error
unfolding shapes types
returns-clause-krb_error c = tied (tagged 126 krb_error) (codes "KRB-ERROR") 88 refl (λ schema k. tagged_tie schema k 63 88 126 87 _ refl (krb_error_tie schema k 59)) (record {
  to = λ v. v;
  of = λ v. v;
  enc_to = λ v. ap (tlv 126) (krb_error_same v);
  enc_of = λ v. ap (tlv 126) (krb_error_same v);
  valid_to = λ v h. krb_error_valid v h.0;
  valid_of = λ v h. (krb_error_right v h, lit≤ tt);
}) (λ schema k. application_refused schema k 63 88 30 87 _ refl (lit≤ tt) refl (krb_error_refused schema k 59))

pub returns-clause-tgt_req : goal.returns-clause-tgt_req
unfolding shapes types
returns-clause-tgt_req c = tied tgt_req (codes "TGT-REQ") 93 refl (λ schema k. tgt_req_tie schema k 60) (record {
  to = λ v. v;
  of = λ v. v;
  enc_to = tgt_req_same;
  enc_of = tgt_req_same;
  valid_to = tgt_req_valid;
  valid_of = tgt_req_right;
}) (λ schema k. tgt_req_refused schema k 60)

pub returns-clause-tgt_rep : goal.returns-clause-tgt_rep
unfolding shapes types
returns-clause-tgt_rep c = tied tgt_rep (codes "TGT-REP") 95 refl (λ schema k. tgt_rep_tie schema k 58) (record {
  to = λ v. v;
  of = λ v. v;
  enc_to = tgt_rep_same;
  enc_of = tgt_rep_same;
  valid_to = tgt_rep_valid;
  valid_of = tgt_rep_right;
}) (λ schema k. tgt_rep_refused schema k 58)

pub returns-clause-proxy_message : goal.returns-clause-proxy_message
unfolding shapes types
returns-clause-proxy_message c = tied kdc_proxy_message (codes "KDC-PROXY-MESSAGE") 96 refl (λ schema k. kdc_proxy_message_tie schema k 62) (record {
  to = λ v. v;
  of = λ v. v;
  enc_to = kdc_proxy_message_same;
  enc_of = kdc_proxy_message_same;
  valid_to = kdc_proxy_message_valid;
  valid_of = kdc_proxy_message_right;
}) (λ schema k. kdc_proxy_message_refused schema k 62)

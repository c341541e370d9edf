use Rattle.std.proofs.Common.{◌<◌, ◌^◌, arith, length, w32}
use Rattle.std.proofs.lemmas.Int.{to_z-of_z}
use Rattle.krb_der_core.specs.Encoding.{IsOctets}
use Rattle.krb_c_calls.proofs.KindRows.{checked_as}
use Rattle.krb_c.proofs.RowChecks.{reading}
use Rattle.krb_c.proofs.parts.krb_check.Goals as goal

pub returns : goal.returns
returns c =
    let small : IsOctets c.args.octets.now = λ i. omega (arith, c.type_inv.octets i) in
    let less : length c.args.octets.now < 2 ^ 64 = omega arith in
    let shared = c.rows_of_data_types.ensures in
    let parts = c.rows_of_parts.ensures in
    let messages = c.rows_of_messages.ensures in
    checked_as _ c.args.octets.now c.check.result (record {
      ticket = reading c.args.octets.now small less _ _ _ shared.ticket;
      authenticator = reading c.args.octets.now small less _ _ _ parts.authenticator;
      enc_ticket_part = reading c.args.octets.now small less _ _ _ parts.enc_ticket_part;
      as_req = reading c.args.octets.now small less _ _ _ messages.as_req;
      as_rep = reading c.args.octets.now small less _ _ _ messages.as_rep;
      tgs_req = reading c.args.octets.now small less _ _ _ messages.tgs_req;
      tgs_rep = reading c.args.octets.now small less _ _ _ messages.tgs_rep;
      ap_req = reading c.args.octets.now small less _ _ _ messages.ap_req;
      ap_rep = reading c.args.octets.now small less _ _ _ messages.ap_rep;
      krb_priv = reading c.args.octets.now small less _ _ _ messages.krb_priv;
      krb_cred = reading c.args.octets.now small less _ _ _ messages.krb_cred;
      enc_as_rep_part = reading c.args.octets.now small less _ _ _ messages.enc_as_rep_part;
      enc_tgs_rep_part = reading c.args.octets.now small less _ _ _ messages.enc_tgs_rep_part;
      enc_ap_rep_part = reading c.args.octets.now small less _ _ _ parts.enc_ap_rep_part;
      enc_krb_priv_part = reading c.args.octets.now small less _ _ _ parts.enc_krb_priv_part;
      enc_krb_cred_part = reading c.args.octets.now small less _ _ _ parts.enc_krb_cred_part;
      krb_error = reading c.args.octets.now small less _ _ _ messages.krb_error;
    }) c.args.number (rw (to_z-of_z w32 c.args.number c.ranges.number) at c.check.ensures)

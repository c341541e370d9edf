-- The table has a row for each message with an application tag of its own; and reading by these rows.
use Rattle.std.proofs.Common.{◌≡◌, inl, inr, ℕ, ℤ, List, Some, codes, refl}
use Rattle.krb_schema.specs.Named.{row_in}
use Rattle.krb_schema.specs.Types.{types}
use Rattle.krb_c_calls.specs.Kinds.{IsChecked, Readings, reading_of}
use Rattle.krb_c_calls.specs.RowReadings.{IsRowChecked, IsRowReading, type_name}
use Rattle.krb_c_calls.specs.declared.parts.kind.MessageKind.{MessageKind}
use Rattle.krb_c_calls.specs.declared.parts.kind.MessageKind.TheVariants as kind

pub has_row : (k : MessageKind) → (row : ℕ) × (row_in types (type_name k) ≡ Some row)
unfolding types
has_row kind.Ticket = (_, refl)
has_row kind.Authenticator = (_, refl)
has_row kind.EncTicketPart = (_, refl)
has_row kind.AsReq = (_, refl)
has_row kind.AsRep = (_, refl)
has_row kind.TgsReq = (_, refl)
has_row kind.TgsRep = (_, refl)
has_row kind.ApReq = (_, refl)
has_row kind.ApRep = (_, refl)
has_row kind.KrbPriv = (_, refl)
has_row kind.KrbCred = (_, refl)
has_row kind.EncAsRepPart = (_, refl)
has_row kind.EncTgsRepPart = (_, refl)
has_row kind.EncApRepPart = (_, refl)
has_row kind.EncKrbPrivPart = (_, refl)
has_row kind.EncKrbCredPart = (_, refl)
has_row kind.KrbError = (_, refl)

-- ---- what is read by the row of each type is read as the type

pub record AreReadAs (readings : Readings) (octets : List ℕ) (status : ℕ) : Type 0 where
  pub ticket : IsRowReading (codes "Ticket") octets status → readings.ticket octets status
  pub authenticator : IsRowReading (codes "Authenticator") octets status → readings.authenticator octets status
  pub enc_ticket_part : IsRowReading (codes "EncTicketPart") octets status → readings.enc_ticket_part octets status
  pub as_req : IsRowReading (codes "AS-REQ") octets status → readings.as_req octets status
  pub as_rep : IsRowReading (codes "AS-REP") octets status → readings.as_rep octets status
  pub tgs_req : IsRowReading (codes "TGS-REQ") octets status → readings.tgs_req octets status
  pub tgs_rep : IsRowReading (codes "TGS-REP") octets status → readings.tgs_rep octets status
  pub ap_req : IsRowReading (codes "AP-REQ") octets status → readings.ap_req octets status
  pub ap_rep : IsRowReading (codes "AP-REP") octets status → readings.ap_rep octets status
  pub krb_priv : IsRowReading (codes "KRB-PRIV") octets status → readings.krb_priv octets status
  pub krb_cred : IsRowReading (codes "KRB-CRED") octets status → readings.krb_cred octets status
  pub enc_as_rep_part : IsRowReading (codes "EncASRepPart") octets status → readings.enc_as_rep_part octets status
  pub enc_tgs_rep_part : IsRowReading (codes "EncTGSRepPart") octets status → readings.enc_tgs_rep_part octets status
  pub enc_ap_rep_part : IsRowReading (codes "EncAPRepPart") octets status → readings.enc_ap_rep_part octets status
  pub enc_krb_priv_part : IsRowReading (codes "EncKrbPrivPart") octets status → readings.enc_krb_priv_part octets status
  pub enc_krb_cred_part : IsRowReading (codes "EncKrbCredPart") octets status → readings.enc_krb_cred_part octets status
  pub krb_error : IsRowReading (codes "KRB-ERROR") octets status → readings.krb_error octets status

module _ (readings : Readings) (octets : List ℕ) (status : ℕ) (each : AreReadAs readings octets status) where
  read_as : (k : MessageKind) → IsRowReading (type_name k) octets status → reading_of readings k octets status
  read_as kind.Ticket = each.ticket
  read_as kind.Authenticator = each.authenticator
  read_as kind.EncTicketPart = each.enc_ticket_part
  read_as kind.AsReq = each.as_req
  read_as kind.AsRep = each.as_rep
  read_as kind.TgsReq = each.tgs_req
  read_as kind.TgsRep = each.tgs_rep
  read_as kind.ApReq = each.ap_req
  read_as kind.ApRep = each.ap_rep
  read_as kind.KrbPriv = each.krb_priv
  read_as kind.KrbCred = each.krb_cred
  read_as kind.EncAsRepPart = each.enc_as_rep_part
  read_as kind.EncTgsRepPart = each.enc_tgs_rep_part
  read_as kind.EncApRepPart = each.enc_ap_rep_part
  read_as kind.EncKrbPrivPart = each.enc_krb_priv_part
  read_as kind.EncKrbCredPart = each.enc_krb_cred_part
  read_as kind.KrbError = each.krb_error

  pub checked_as : (number : ℤ) → IsRowChecked number octets status → IsChecked readings number octets status
  checked_as number (inl (k, is, r)) = inl (k, is, read_as k r)
  checked_as number (inr none) = inr none

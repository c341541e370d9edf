-- The types of messages by their application tags, and what is asked of a message's octets by the tag's number (RFC 4120, 5.10).
use Rattle.std.specs.Prelude.{◌≡◌, ◌⊎◌, ℕ, ℤ, pos, List}
use Rattle.krb_c_calls.specs.declared.parts.kind.MessageKind.{MessageKind}
use Rattle.krb_c_calls.specs.declared.parts.kind.MessageKind.TheVariants as kind

-- the application tag
abbrev pub tag_of : MessageKind → ℕ
tag_of kind.Ticket = 1
tag_of kind.Authenticator = 2
tag_of kind.EncTicketPart = 3
tag_of kind.AsReq = 10
tag_of kind.AsRep = 11
tag_of kind.TgsReq = 12
tag_of kind.TgsRep = 13
tag_of kind.ApReq = 14
tag_of kind.ApRep = 15
tag_of kind.KrbPriv = 21
tag_of kind.KrbCred = 22
tag_of kind.EncAsRepPart = 25
tag_of kind.EncTgsRepPart = 26
tag_of kind.EncApRepPart = 27
tag_of kind.EncKrbPrivPart = 28
tag_of kind.EncKrbCredPart = 29
tag_of kind.KrbError = 30

abbrev pub number_of : MessageKind → ℤ
number_of kind = pos (tag_of kind)

-- no type has this number
abbrev pub IsNoKind : ℤ → Type 0
IsNoKind number = (kind : MessageKind) → number_of kind ≡ number → ⊥

-- what a reading of octets as each type answers
pub record Readings : Type 1 where
  pub ticket : List ℕ → ℕ → Type 0
  pub authenticator : List ℕ → ℕ → Type 0
  pub enc_ticket_part : List ℕ → ℕ → Type 0
  pub as_req : List ℕ → ℕ → Type 0
  pub as_rep : List ℕ → ℕ → Type 0
  pub tgs_req : List ℕ → ℕ → Type 0
  pub tgs_rep : List ℕ → ℕ → Type 0
  pub ap_req : List ℕ → ℕ → Type 0
  pub ap_rep : List ℕ → ℕ → Type 0
  pub krb_priv : List ℕ → ℕ → Type 0
  pub krb_cred : List ℕ → ℕ → Type 0
  pub enc_as_rep_part : List ℕ → ℕ → Type 0
  pub enc_tgs_rep_part : List ℕ → ℕ → Type 0
  pub enc_ap_rep_part : List ℕ → ℕ → Type 0
  pub enc_krb_priv_part : List ℕ → ℕ → Type 0
  pub enc_krb_cred_part : List ℕ → ℕ → Type 0
  pub krb_error : List ℕ → ℕ → Type 0

abbrev pub reading_of : Readings → MessageKind → List ℕ → ℕ → Type 0
reading_of readings kind.Ticket = readings.ticket
reading_of readings kind.Authenticator = readings.authenticator
reading_of readings kind.EncTicketPart = readings.enc_ticket_part
reading_of readings kind.AsReq = readings.as_req
reading_of readings kind.AsRep = readings.as_rep
reading_of readings kind.TgsReq = readings.tgs_req
reading_of readings kind.TgsRep = readings.tgs_rep
reading_of readings kind.ApReq = readings.ap_req
reading_of readings kind.ApRep = readings.ap_rep
reading_of readings kind.KrbPriv = readings.krb_priv
reading_of readings kind.KrbCred = readings.krb_cred
reading_of readings kind.EncAsRepPart = readings.enc_as_rep_part
reading_of readings kind.EncTgsRepPart = readings.enc_tgs_rep_part
reading_of readings kind.EncApRepPart = readings.enc_ap_rep_part
reading_of readings kind.EncKrbPrivPart = readings.enc_krb_priv_part
reading_of readings kind.EncKrbCredPart = readings.enc_krb_cred_part
reading_of readings kind.KrbError = readings.krb_error

-- the octets are read as the type of this number; no type has it (3)
abbrev pub IsChecked : Readings → ℤ → List ℕ → ℕ → Type 0
IsChecked readings number octets status =
    ((kind : MessageKind) × (number_of kind ≡ number) × reading_of readings kind octets status)
    ⊎ (IsNoKind number × (status ≡ 3))

-- The line that says whether a service with a keytab lets the client of a token in.
use Rattle.std.specs.Prelude.{◌≡◌, ◌≢◌, ◌⊎◌, ℕ, ℤ, Bool, true, false, Some, Err, List, [], ◌++◌, codes}
use Rattle.std.specs.List.{flat_map}
use Rattle.krb_accept.specs.Keytab.{keys_of_entry}
use Rattle.krb_accept.specs.Opening.{Encodes}
use Rattle.krb_accept.specs.TokenRefusals.{memory}
use Rattle.krb_accept.specs.Tokens.{IsTokenNotPresented, IsTokenPresented}
use Rattle.krb_accept.specs.declared.settings.Settings.{Settings}
use Rattle.krb_accept.specs.declared.token.PresentedToken.{PresentedToken}
use Rattle.krb_accept.specs.declared.token_refusal.TokenRefusal.{TokenRefusal}
use Rattle.krb_accept_rules.specs.declared.accepted.Accepted.{Accepted}
use Rattle.krb_accept_rules.specs.declared.key.ServiceKey.{ServiceKey}
use Rattle.krb_accept_rules.specs.declared.opening.Opening.{Ghosts as OpeningOf}
use Rattle.krb_accept_rules.specs.declared.terms.Arrival.{Arrival}
use Rattle.krb_accept_rules.specs.declared.terms.Terms.{Terms}
use Rattle.krb_der_core.specs.declared.der.DerEncode.{Ghosts as EncodingOf}
use Rattle.krb_enc_parts.specs.declared.data_types.credentials.EncKrbCredPartInner.{EncKrbCredPartInner}
use Rattle.krb_files.specs.Entry.{Entry}
use Rattle.krb_files.specs.Keytab.{KeytabIs}
use Rattle.krb_files.specs.KeytabReading.{keytab_of}
use Rattle.krb_files.specs.declared.keytab.error.KeytabError.{KeytabError}
use Rattle.krb_gss_tokens.specs.declared.spnego.GssApiNegInit.{GssApiNegInit}
use Rattle.krb_messages.specs.declared.messages.credentials.KrbCredInner.{KrbCredInner}
use Rattle.krb_types.specs.Principals.{principal_text}
use Rattle.krb_types.specs.declared.data_types.authorization_data.AuthorizationDataInner.{AuthorizationDataInner}
use Rattle.krb_accept_report.specs.Negotiation.{IsTokenIn}
use Rattle.krb_accept_report.specs.Reasons.{IsReason}
use Rattle.krb_accept_report.specs.Texts.{printed, time_text}
use Rattle.krb_accept_report.specs.declared.report.ReportError.{ReportError}
use Rattle.krb_accept_report.specs.declared.report.ReportError.TheVariants as errors
use Rattle.krb_accept_report.specs.Questions.{Question, arrival_of}

-- who is let in, for which server, and until when the ticket is valid
abbrev pub accepted_text : Accepted → List ℕ
accepted_text a =
    codes "accepted: " ++ principal_text a.ticket.client.name_string (Some a.ticket.realm) ++ codes " for "
    ++ principal_text a.server.name_string (Some a.server_realm) ++ codes ", until " ++ time_text a.ticket.end_time
    ++ codes "; no replay cache was asked"

-- the keys of the keytab that octets are
abbrev pub AreKeysOf : List ℕ → List ServiceKey → Type 0
AreKeysOf octets keys = (entries : List Entry) × KeytabIs octets entries × (keys ≡ flat_map keys_of_entry entries)

-- the line of a refusal: its reason, printed
abbrev pub IsReasonLine : {O : Type 0} → OpeningOf O → List ServiceKey → ℤ → ℕ → List ℕ → TokenRefusal → List ℕ → Type 0
IsReasonLine o keys clock skew token e line = (reason : List ℕ) × IsReason o keys clock skew token e reason × (line ≡ printed (codes "refused: " ++ reason))

-- What is decided of a token by keys, terms, an arrival and settings.
module _ (cred : EncodingOf KrbCredInner) (part : EncodingOf EncKrbCredPartInner) (elements : EncodingOf (List AuthorizationDataInner)) {O : Type 0}
    (o : OpeningOf O) (keys : List ServiceKey) (terms : Terms) (arrival : Arrival) (settings : Settings) (token : List ℕ) where
  -- the client presents this: the line says who it is
  abbrev pub IsAcceptedLine : List ℕ → Type 0
  IsAcceptedLine line =
      (p : PresentedToken) × IsTokenPresented cred part elements o keys [] terms arrival settings token p
      × (line ≡ printed (accepted_text p.presented.accepted))

  -- it presents nothing: the line has the reason, by the first rule that is broken
  abbrev pub IsRefusedLine : List ℕ → Type 0
  IsRefusedLine line =
      (e : TokenRefusal) × (e ≢ memory) × IsTokenNotPresented cred part elements o keys [] terms arrival settings token e
      × IsReasonLine o keys arrival.clock terms.skew token e line

  -- whether it is accepted, and the line
  abbrev pub IsSaid : Bool → List ℕ → Type 0
  IsSaid accepts line = ((accepts ≡ true) × IsAcceptedLine line) ⊎ ((accepts ≡ false) × IsRefusedLine line)

-- What is said of octets: of the token in them, by the keytab, the terms and the clock.
abbrev pub IsReport : EncodingOf KrbCredInner → EncodingOf EncKrbCredPartInner → EncodingOf (List AuthorizationDataInner) → EncodingOf GssApiNegInit
    → {O : Type 0} → OpeningOf O → Question → Bool → List ℕ → Type 0
IsReport cred part elements negotiation o q accepts line =
    (keys : List ServiceKey) × (token : List ℕ) × AreKeysOf q.keytab keys × IsTokenIn (Encodes negotiation q.octets) q.octets token
    × IsSaid cred part elements o keys q.terms (arrival_of q) q.settings token accepts line

-- the keytab is none, and this is its first error; or an allocation failed
abbrev pub IsNotSaid : Question → ReportError → Type 0
IsNotSaid q e = (e ≡ errors.OutOfMemory) ⊎ ((why : KeytabError) × (keytab_of q.keytab ≡ Err why) × (e ≡ errors.Keytab why))

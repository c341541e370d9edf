-- The lines of a keytab and of a credential cache, as klist of MIT Kerberos has them, and which octets are none.
use Rattle.std.specs.Prelude.{◌≡◌, ◌≢◌, ℕ, ◌==◌, if◌then◌else◌, ◌⊎◌, pos, List, [], ◌∷◌, ◌++◌, Err, codes}
use Rattle.std.specs.Fmt.{decimal}
use Rattle.std.specs.Str.{bytes_eq}
use Rattle.krb_files.specs.Ccache.{Ccache, CcacheIs, Credential}
use Rattle.krb_files.specs.CcacheReading.{ccache_of}
use Rattle.krb_files.specs.declared.ccache.credential.Times.{Times}
use Rattle.krb_files.specs.FieldReading.{Principal}
use Rattle.krb_files.specs.Entry.{Entry}
use Rattle.krb_files.specs.Keytab.{KeytabIs}
use Rattle.krb_files.specs.KeytabReading.{keytab_of}
use Rattle.krb_file_tools.specs.Principals.{principal_text}
use Rattle.krb_file_tools.specs.Tickets.{tickets_of}
use Rattle.krb_file_tools.specs.Texts.{IsEtypeText, IsTimeText, flag_letters, padded}
use Rattle.krb_file_tools.specs.declared.list.error.ListError.{ListError}
use Rattle.krb_file_tools.specs.declared.list.error.ListError.TheVariants as errors
use Rattle.krb_show_text.specs.Text.{AreLines, text_of_lines}

-- ---- lists of lines

-- a line for each item, in their order
abbrev pub AreLinesOf : {A : Type 0} → (A → List ℕ → Type 0) → List A → List (List ℕ) → Type 0
AreLinesOf is_line [] [] = Unit {0}
AreLinesOf is_line [] (l ∷ ls) = ⊥
AreLinesOf is_line (x ∷ xs) [] = ⊥
AreLinesOf is_line (x ∷ xs) (l ∷ ls) = is_line x l × AreLinesOf is_line xs ls

-- the text has these lines first and then one for each item, all of them printable ASCII
pub record IsListing {A : Type 0} (heads : List (List ℕ)) (is_line : A → List ℕ → Type 0) (items : List A) (text : List ℕ) : Type 0 where
  pub lines : List (List ℕ)
  pub each : AreLinesOf is_line items lines
  pub printable : AreLines (heads ++ lines)
  pub is : text ≡ text_of_lines (heads ++ lines)

-- ---- keytabs (MIT Kerberos, "Keytab file format")

abbrev pub keytab_header : List ℕ
keytab_header = codes "KVNO Timestamp            Principal"

-- version of the key, time, principal, and in parentheses the encryption type
pub record IsEntryLine (e : Entry) (line : List ℕ) : Type 0 where
  pub time : List ℕ
  pub etype : List ℕ
  pub time_is : IsTimeText e.timestamp time
  pub etype_is : IsEtypeText (pos e.etype) etype
  pub is : line ≡ padded (decimal e.kvno) ++ codes " " ++ time ++ codes " " ++ principal_text e.principal ++ codes " (" ++ etype ++ codes ")"

abbrev pub IsKeytabListing : List Entry → List ℕ → Type 0
IsKeytabListing entries text = IsListing (keytab_header ∷ []) IsEntryLine entries text

-- the first error of the octets, from the left; or an allocation failed, and they are a keytab
abbrev pub IsNoKeytab : List ℕ → ListError → Type 0
IsNoKeytab octets (errors.Keytab why) = keytab_of octets ≡ Err why
IsNoKeytab octets (errors.Ccache why) = ⊥
IsNoKeytab octets errors.OutOfMemory = (entries : List Entry) × KeytabIs octets entries

-- ---- credential caches (MIT Kerberos, "Credential cache file format")

abbrev pub default_line : Principal → List ℕ
default_line principal = codes "Default principal: " ++ principal_text principal

abbrev pub ccache_header : List ℕ
ccache_header = codes "Valid starting        Expires               Service principal"

-- the start of a ticket is its authtime where it has no other
abbrev pub start_of : Times → ℕ
start_of t = if t.starttime == 0 then t.authtime else t.starttime

-- the client, where its text is not that of the default principal
abbrev pub client_part : List ℕ → List ℕ → List ℕ
client_part own client = if bytes_eq client own then [] else codes "  for client " ++ client

-- until when the ticket may be renewed, where it may
abbrev pub IsRenewPart : ℕ → List ℕ → Type 0
IsRenewPart renew_till part =
    ((renew_till ≡ 0) × (part ≡ [])) ⊎ ((renew_till ≢ 0) × (time : List ℕ) × IsTimeText renew_till time × (part ≡ codes "  renew until " ++ time))

-- the letters of the flags that are set, where any is
abbrev pub flags_part : List ℕ → List ℕ
flags_part [] = []
flags_part (letter ∷ letters) = codes "  Flags: " ++ letter ∷ letters

-- the encryption types of the session key and of the ticket
abbrev pub IsEtypePart : (List ℕ → List ℕ → Type 0) → Credential → List ℕ → Type 0
IsEtypePart ticket c part =
    (session : List ℕ) × (sealed : List ℕ) × IsEtypeText (pos c.etype) session × ticket c.ticket sealed
    × (part ≡ codes "  Etype (skey, tkt): " ++ session ++ codes ", " ++ sealed)

-- start, end and server
pub record IsTicketPart (c : Credential) (part : List ℕ) : Type 0 where
  pub start : List ℕ
  pub expiry : List ℕ
  pub start_is : IsTimeText (start_of c.times) start
  pub expiry_is : IsTimeText c.times.endtime expiry
  pub is : part ≡ start ++ codes "  " ++ expiry ++ codes "  " ++ principal_text c.server.principal

-- what klist -f -e adds
pub record IsAddedPart (ticket : List ℕ → List ℕ → Type 0) (own : List ℕ) (c : Credential) (part : List ℕ) : Type 0 where
  pub renewal : List ℕ
  pub etypes : List ℕ
  pub renewal_is : IsRenewPart c.times.renew_till renewal
  pub etypes_is : IsEtypePart ticket c etypes
  pub is : part ≡ client_part own (principal_text c.client.principal) ++ renewal ++ flags_part (flag_letters c.flags) ++ etypes

-- start, end and server; then what klist -f -e adds, each part behind two blanks
pub record IsCredentialLine (ticket : List ℕ → List ℕ → Type 0) (own : List ℕ) (c : Credential) (line : List ℕ) : Type 0 where
  pub first : List ℕ
  pub added : List ℕ
  pub first_is : IsTicketPart c first
  pub added_is : IsAddedPart ticket own c added
  pub is : line ≡ first ++ added

-- the default principal, the header, and a line for each ticket, by which octets of a ticket have which text for their
-- encryption type
abbrev pub IsCcacheListing : (List ℕ → List ℕ → Type 0) → Ccache → List ℕ → Type 0
IsCcacheListing ticket cache text =
    IsListing (default_line cache.principal.principal ∷ ccache_header ∷ [])
    (IsCredentialLine ticket (principal_text cache.principal.principal)) (tickets_of cache.credentials) text

-- the first error of the octets, from the left; or an allocation failed, and they are a cache
abbrev pub IsNoCcache : List ℕ → ListError → Type 0
IsNoCcache octets (errors.Keytab why) = ⊥
IsNoCcache octets (errors.Ccache why) = ccache_of octets ≡ Err why
IsNoCcache octets errors.OutOfMemory = (cache : Ccache) × CcacheIs octets cache

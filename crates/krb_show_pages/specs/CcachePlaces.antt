-- Where in a credential cache what its page tells stands, in the order of the tokens (MIT Kerberos, "Credential cache file format"). Lengths and counts
-- are in no place but those of the structs and lists around them.
use Rattle.std.specs.Prelude.{◌≡◌, ℕ, ◌+◌, Bool, true, false, List, [], ◌∷◌, ◌++◌, length, Option, None, codes}
use Rattle.krb_files.specs.Ccache.{Ccache, CcacheIs, Credential, TypedPrincipal}
use Rattle.krb_files.specs.Config.{is_removed}
use Rattle.krb_files.specs.FieldReading.{Typed}
use Rattle.krb_files.specs.declared.ccache.view.CcacheVersion.{CcacheVersion}
use Rattle.krb_files.specs.declared.ccache.view.CcacheVersion.TheVariants.{Three, Four}
use Rattle.krb_message_fields.specs.declared.places.place.Place.{Place}
use Rattle.krb_show.specs.InnerPlaces.{ArePlacesByRow, place_at}
use Rattle.krb_show_messages.specs.Formats.{formats_of}
use Rattle.krb_show_messages.specs.Places.{◌then◌, adds, formats_places}

-- ---- how many octets values have

-- "Principal format": components, each behind its length of 32 bits
abbrev pub components_size : List (List ℕ) → ℕ
components_size [] = 0
components_size (c ∷ cs) = 4 + length c + components_size cs

-- "Principal format": the type of the name, the count of components and the length of the realm, of 32 bits each, the realm, and the components
abbrev pub principal_size : TypedPrincipal → ℕ
principal_size p = 12 + length p.principal.realm + components_size p.principal.components

-- a type of 16 bits, and octets behind a length of so many octets
abbrev pub typed_size : ℕ → Typed → ℕ
typed_size n t = 2 + n + length t.octets

abbrev pub each_typed_size : ℕ → List Typed → ℕ
each_typed_size n [] = 0
each_typed_size n (t ∷ ts) = typed_size n t + each_typed_size n ts

-- "Credential format", addresses and authdata: their count of 32 bits, and so many of them
abbrev pub typed_list_size : List Typed → ℕ
typed_list_size ts = 4 + each_typed_size 4 ts

-- "Header format": only version 4 has a header, which is fields behind their length of 16 bits
abbrev pub header_size : CcacheVersion → List Typed → ℕ
header_size Three fields = 0
header_size Four fields = 2 + each_typed_size 2 fields

-- "Credential format", keyblock: the encryption type of 16 bits, which version 3 has twice, and the key behind its length
abbrev pub etype_size : CcacheVersion → ℕ
etype_size Three = 4
etype_size Four = 2

abbrev pub key_size : CcacheVersion → List ℕ → ℕ
key_size v key = etype_size v + 4 + length key

-- "Credential format": client, server and keyblock
abbrev pub parties_size : CcacheVersion → Credential → ℕ
parties_size v c = principal_size c.client + principal_size c.server + key_size v c.key

-- "Credential format": behind these the times, is_skey and ticket_flags have 21 octets; addresses and authdata
abbrev pub marks_size : Credential → ℕ
marks_size c = 21 + typed_list_size c.addresses + typed_list_size c.authorization_data

-- "Credential format": all of it, with both tickets behind their lengths
abbrev pub credential_size : CcacheVersion → Credential → ℕ
credential_size v c = parties_size v c + marks_size c + 8 + length c.ticket + length c.second_ticket

abbrev pub credentials_size : CcacheVersion → List Credential → ℕ
credentials_size v [] = 0
credentials_size v (c ∷ cs) = credential_size v c + credentials_size v cs

-- all of it: the version, header, default principal and credentials
abbrev pub ccache_size : Ccache → ℕ
ccache_size c = 2 + header_size c.version c.header + principal_size c.principal + credentials_size c.version c.credentials

-- ---- what each adds to the places before it, from an offset on

abbrev pub adds_components : ℕ → List (List ℕ) → List (Option Place) → List (Option Place) → Type 0
adds_components at [] old new = new ≡ old
adds_components at (c ∷ cs) old new = (adds (place_at (at + 4) (length c) ∷ []) then adds_components (at + 4 + length c) cs) old new

-- "Principal format": the principal, the type of its name, the realm, and the list of components
abbrev pub adds_name : ℕ → ℕ → List ℕ → List (List ℕ) → List (Option Place) → List (Option Place) → Type 0
adds_name at size realm components =
    adds (place_at at size ∷ place_at at 4 ∷ place_at (at + 12) (length realm) ∷ place_at (at + 12 + length realm) (components_size components) ∷ [])
    then adds_components (at + 12 + length realm) components
    then adds (place_at (at + 12 + length realm) (components_size components) ∷ place_at at size ∷ [])

abbrev pub adds_principal : ℕ → TypedPrincipal → List (Option Place) → List (Option Place) → Type 0
adds_principal at p = adds_name at (principal_size p) p.principal.realm p.principal.components

-- a field of the header, an address or an element of authdata: all of it, its type and its octets
abbrev pub typed_places : ℕ → ℕ → Typed → List (Option Place)
typed_places n at t = place_at at (typed_size n t) ∷ place_at at 2 ∷ place_at (at + 2 + n) (length t.octets) ∷ place_at at (typed_size n t) ∷ []

abbrev pub adds_each_typed : ℕ → ℕ → List Typed → List (Option Place) → List (Option Place) → Type 0
adds_each_typed n at [] old new = new ≡ old
adds_each_typed n at (t ∷ ts) old new = (adds (typed_places n at t) then adds_each_typed n (at + typed_size n t) ts) old new

-- a list of them, which has the octets behind its count or its length
abbrev pub adds_typed_list : ℕ → ℕ → List Typed → List (Option Place) → List (Option Place) → Type 0
adds_typed_list n at ts =
    adds (place_at at (each_typed_size n ts) ∷ []) then adds_each_typed n at ts then adds (place_at at (each_typed_size n ts) ∷ [])

-- "Header format": the fields behind the length; version 3 has none, and the empty list no octets
abbrev pub adds_header : CcacheVersion → ℕ → List Typed → List (Option Place) → List (Option Place) → Type 0
adds_header Three at fields = adds (None ∷ None ∷ [])
adds_header Four at fields = adds_typed_list 2 (at + 2) fields

-- "Credential format", keyblock: all of it, the encryption type, where it stands first, and the key
abbrev pub key_places : CcacheVersion → ℕ → List ℕ → List (Option Place)
key_places v at key =
    place_at at (key_size v key) ∷ place_at at 2 ∷ place_at (at + etype_size v + 4) (length key) ∷ place_at at (key_size v key) ∷ []

-- "Credential format": client, server and keyblock
abbrev pub adds_parties : CcacheVersion → ℕ → Credential → List (Option Place) → List (Option Place) → Type 0
adds_parties v at c =
    adds_principal at c.client
    then adds_principal (at + principal_size c.client) c.server
    then adds (key_places v (at + principal_size c.client + principal_size c.server) c.key)

-- "Credential format": authtime, starttime, endtime, renew_till, is_skey and ticket_flags
abbrev pub numbers_places : ℕ → List (Option Place)
numbers_places at = place_at at 4 ∷ place_at (at + 4) 4 ∷ place_at (at + 8) 4 ∷ place_at (at + 12) 4 ∷ place_at (at + 16) 1 ∷ place_at (at + 17) 4 ∷ []

-- "Credential format": these, addresses and authdata
abbrev pub adds_marks : ℕ → Credential → List (Option Place) → List (Option Place) → Type 0
adds_marks at c =
    adds (numbers_places at)
    then adds_typed_list 4 (at + 25) c.addresses
    then adds_typed_list 4 (at + 25 + typed_list_size c.addresses) c.authorization_data

-- octets in a ticket's place: those of a Ticket (RFC 4120, 5.3) have the places of its elements, others that of all of them
abbrev pub adds_ticket : ℕ → List ℕ → List (Option Place) → List (Option Place) → Type 0
adds_ticket at octets old new =
    (made : List (Option Place)) × ArePlacesByRow formats_of formats_places (codes "Ticket") at octets made × (new ≡ old ++ made)

-- "Credential format": ticket and second_ticket, each behind its length
abbrev pub adds_tickets : ℕ → Credential → List (Option Place) → List (Option Place) → Type 0
adds_tickets at c = adds_ticket (at + 4) c.ticket then adds_ticket (at + 8 + length c.ticket) c.second_ticket

-- that it was removed has no octets of its own
abbrev pub removal_places : Bool → List (Option Place)
removal_places true = None ∷ []
removal_places false = []

-- "Credential format": what it has
abbrev pub adds_fields : CcacheVersion → ℕ → Credential → List (Option Place) → List (Option Place) → Type 0
adds_fields v at c =
    adds_parties v at c then adds_marks (at + parties_size v c) c then adds_tickets (at + parties_size v c + marks_size c) c

-- "Credential format": all of it, that it was removed, and what it has
abbrev pub adds_credential : CcacheVersion → ℕ → Credential → List (Option Place) → List (Option Place) → Type 0
adds_credential v at c =
    adds (place_at at (credential_size v c) ∷ []) then adds (removal_places (is_removed c)) then adds_fields v at c
    then adds (place_at at (credential_size v c) ∷ [])

abbrev pub adds_credentials : CcacheVersion → ℕ → List Credential → List (Option Place) → List (Option Place) → Type 0
adds_credentials v at [] old new = new ≡ old
adds_credentials v at (c ∷ cs) old new = (adds_credential v at c then adds_credentials v (at + credential_size v c) cs) old new

-- the list of credentials
abbrev pub adds_credential_list : CcacheVersion → ℕ → List Credential → List (Option Place) → List (Option Place) → Type 0
adds_credential_list v at cs =
    adds (place_at at (credentials_size v cs) ∷ []) then adds_credentials v at cs then adds (place_at at (credentials_size v cs) ∷ [])

-- the header, behind the version, the default principal and the credentials
abbrev pub adds_content : Ccache → List (Option Place) → List (Option Place) → Type 0
adds_content c =
    adds_header c.version 2 c.header
    then adds_principal (2 + header_size c.version c.header) c.principal
    then adds_credential_list c.version (2 + header_size c.version c.header + principal_size c.principal) c.credentials

-- a cache of so many octets: all of them, and the second octet, which is the version that is shown
abbrev pub adds_ccache : ℕ → Ccache → List (Option Place) → List (Option Place) → Type 0
adds_ccache size c = adds (place_at 0 size ∷ place_at 1 1 ∷ []) then adds_content c then adds (place_at 0 size ∷ [])

-- octets that are a cache have these places, and others none
pub record AreCcachePlaces (octets : List ℕ) (places : List (Option Place)) : Type 0 where
  pub found : (cache : Ccache) → CcacheIs octets cache → adds_ccache (length octets) cache [] places
  pub none : ((cache : Ccache) → CcacheIs octets cache → ⊥) → places ≡ []

-- How many octets a credential cache has, and places that are added one behind another.
use Rattle.std.proofs.Common.{◌≡◌, ℕ, ◌+◌, List, [], ◌∷◌, ◌++◌, length, refl, sym, ap, subst, ◌∙◌, length-append, Option, Result, Ok, Err, OnErr, arith}
use Rattle.std.specs.List.{flat_map}
use Rattle.std.proofs.lemmas.List.Concat.{flat_map-cons}
use Rattle.byteorder.specs.Endian.{big_bytes}
use Rattle.byteorder.specs.Numbers.{length-bytes_high_first}
use Rattle.krb_files.specs.Ccache.{Ccache, CcacheIs, Credential, TypedPrincipal, credential_octets, etype_octets, header_octets, principal_octets, times_octets}
use Rattle.krb_files.specs.FieldReading.{Principal, Typed}
use Rattle.krb_files.specs.FieldWritten.{counted_octets, principal_octets as name_octets, typed_list_octets, typed_octets}
use Rattle.krb_files.specs.Laws.{ok_is}
use Rattle.krb_files.specs.declared.ccache.credential.Times.{Times}
use Rattle.krb_files.specs.declared.ccache.error.CcacheError.{CcacheError}
use Rattle.krb_files.specs.declared.ccache.view.CcacheVersion.{CcacheVersion}
use Rattle.krb_files.specs.declared.ccache.view.CcacheVersion.TheVariants.{Three, Four}
use Rattle.krb_message_fields.specs.declared.places.place.Place.{Place}
use Rattle.krb_show_messages.specs.Places.{adds}
use Rattle.krb_show_pages.specs.CcachePlaces.{AreCcachePlaces, adds_ccache, adds_content, adds_credential_list, adds_fields, adds_header, adds_marks, adds_parties, adds_principal, adds_tickets, adds_typed_list, numbers_places}
use Rattle.krb_show_pages.specs.CcachePlaces.{ccache_size, components_size, credential_size, credentials_size, each_typed_size, etype_size, header_size, marks_size, parties_size, principal_size, typed_list_size, typed_size}

counted : (n : ℕ) (c : List ℕ) → length (counted_octets n c) ≡ n + length c
counted n c = omega (arith, length-append (big_bytes n (length c)) c, length-bytes_high_first n (length c))

components : (cs : List (List ℕ)) → length (flat_map (counted_octets 4) cs) ≡ components_size cs
components [] = refl
components (c ∷ cs) =
    ap length (flat_map-cons (counted_octets 4) c cs)
    ∙ omega (arith, length-append (counted_octets 4 c) (flat_map (counted_octets 4) cs), counted 4 c, components cs)

name : (v : Principal) → length (name_octets 4 v) ≡ 8 + length v.realm + components_size v.components
name v =
    let flat = flat_map (counted_octets 4) v.components in
    omega (
      arith,
      length-append (big_bytes 4 (length v.components)) (counted_octets 4 v.realm ++ flat),
      length-append (counted_octets 4 v.realm) flat,
      length-bytes_high_first 4 (length v.components),
      counted 4 v.realm,
      components v.components,
    )

principal : (p : TypedPrincipal) → length (principal_octets p) ≡ principal_size p
principal p =
    omega (arith, length-append (big_bytes 4 p.name_type) (name_octets 4 p.principal), length-bytes_high_first 4 p.name_type, name p.principal)

typed : (n : ℕ) (t : Typed) → length (typed_octets n t) ≡ typed_size n t
typed n t =
    omega (arith, length-append (big_bytes 2 t.kind) (counted_octets n t.octets), length-bytes_high_first 2 t.kind, counted n t.octets)

each_typed : (n : ℕ) (ts : List Typed) → length (flat_map (typed_octets n) ts) ≡ each_typed_size n ts
each_typed n [] = refl
each_typed n (t ∷ ts) =
    ap length (flat_map-cons (typed_octets n) t ts)
    ∙ omega (arith, length-append (typed_octets n t) (flat_map (typed_octets n) ts), typed n t, each_typed n ts)

typed_list : (ts : List Typed) → length (typed_list_octets ts) ≡ typed_list_size ts
typed_list ts =
    omega (arith, length-append (big_bytes 4 (length ts)) (flat_map (typed_octets 4) ts), length-bytes_high_first 4 (length ts), each_typed 4 ts)

header : (v : CcacheVersion) (fields : List Typed) → length (header_octets v fields) ≡ header_size v fields
header Three fields = refl
header Four fields = omega (arith, counted 2 (flat_map (typed_octets 2) fields), each_typed 2 fields)

etype : (v : CcacheVersion) (e : ℕ) → length (etype_octets v e) ≡ etype_size v
etype Three e = omega (arith, length-append (big_bytes 2 e) (big_bytes 2 e), length-bytes_high_first 2 e)
etype Four e = length-bytes_high_first 2 e

times : (t : Times) → length (times_octets t) ≡ 16
times t =
    omega (
      arith,
      length-append (big_bytes 4 t.authtime) (big_bytes 4 t.starttime ++ (big_bytes 4 t.endtime ++ big_bytes 4 t.renew_till)),
      length-append (big_bytes 4 t.starttime) (big_bytes 4 t.endtime ++ big_bytes 4 t.renew_till),
      length-append (big_bytes 4 t.endtime) (big_bytes 4 t.renew_till),
      length-bytes_high_first 4 t.authtime,
      length-bytes_high_first 4 t.starttime,
      length-bytes_high_first 4 t.endtime,
      length-bytes_high_first 4 t.renew_till,
    )

credential : (v : CcacheVersion) (c : Credential) → length (credential_octets v c) ≡ credential_size v c
credential v c =
    let tickets = counted_octets 4 c.ticket ++ counted_octets 4 c.second_ticket in
    let elements = typed_list_octets c.authorization_data ++ tickets in
    let addresses = typed_list_octets c.addresses ++ elements in
    let flags = big_bytes 4 c.flags ++ addresses in
    let is_skey = big_bytes 1 c.is_skey ++ flags in
    let moments = times_octets c.times ++ is_skey in
    let key = counted_octets 4 c.key ++ moments in
    let kind = etype_octets v c.etype ++ key in
    let server = principal_octets c.server ++ kind in
    omega (
      arith,
      length-append (principal_octets c.client) server,
      length-append (principal_octets c.server) kind,
      length-append (etype_octets v c.etype) key,
      length-append (counted_octets 4 c.key) moments,
      length-append (times_octets c.times) is_skey,
      length-append (big_bytes 1 c.is_skey) flags,
      length-append (big_bytes 4 c.flags) addresses,
      length-append (typed_list_octets c.addresses) elements,
      length-append (typed_list_octets c.authorization_data) tickets,
      length-append (counted_octets 4 c.ticket) (counted_octets 4 c.second_ticket),
      principal c.client,
      principal c.server,
      etype v c.etype,
      counted 4 c.key,
      times c.times,
      length-bytes_high_first 1 c.is_skey,
      length-bytes_high_first 4 c.flags,
      typed_list c.addresses,
      typed_list c.authorization_data,
      counted 4 c.ticket,
      counted 4 c.second_ticket,
    )

credentials : (v : CcacheVersion) (cs : List Credential) → length (flat_map (credential_octets v) cs) ≡ credentials_size v cs
credentials v [] = refl
credentials v (c ∷ cs) =
    ap length (flat_map-cons (credential_octets v) c cs)
    ∙ omega (arith, length-append (credential_octets v c) (flat_map (credential_octets v) cs), credential v c, credentials v cs)

-- octets that are a cache are as many as it has
pub whole_size : (octets : List ℕ) (c : Ccache) → CcacheIs octets c → ccache_size c ≡ length octets
whole_size octets c is =
    let behind = flat_map (credential_octets c.version) c.credentials in
    omega (
      arith,
      ap length is.0,
      length-append (header_octets c.version c.header) (principal_octets c.principal ++ behind),
      length-append (principal_octets c.principal) behind,
      header c.version c.header,
      principal c.principal,
      credentials c.version c.credentials,
    )

-- they have the places of the one cache that they are
pub places_told : (octets : List ℕ) (cache : Ccache) (places : List (Option Place)) → CcacheIs octets cache
    → ((other : Ccache) → CcacheIs octets other → (let o : Result Ccache CcacheError = Ok other in o ≡ Ok cache))
    → adds_ccache (length octets) cache [] places → AreCcachePlaces octets places
places_told octets cache places is only told = record {
  found = λ other same. subst (λ (c : Ccache). adds_ccache (length octets) c [] places) (sym (ok_is CcacheError other cache (only other same))) told;
  none = λ no. absurd (no cache is);
}

-- ---- what is added one behind another

pub marks_told : (at size : ℕ) (c : Credential) (first second third : List Typed) (old one two new : List (Option Place)) → first ≡ c.addresses
    → second ≡ c.addresses → third ≡ c.authorization_data → size ≡ each_typed_size 4 first → adds (numbers_places at) old one
    → adds_typed_list 4 (at + 25) second one two → adds_typed_list 4 (at + 25 + (4 + size)) third two new → adds_marks at c old new
marks_told at size c first second third old one two new e f g is numbers addresses elements = (
  two,
  (one, numbers, subst (λ (ts : List Typed). adds_typed_list 4 (at + 25) ts one two) f addresses),
  subst (λ (n : ℕ). adds_typed_list 4 (at + 25 + (4 + n)) c.authorization_data two new) (is ∙ ap (each_typed_size 4) e)
      (subst (λ (ts : List Typed). adds_typed_list 4 (at + 25 + (4 + size)) ts two new) g elements),
)

pub fields_told : (v : CcacheVersion) (at parties marks : ℕ) (c : Credential) (old one two new : List (Option Place)) → parties ≡ parties_size v c
    → marks ≡ marks_size c → adds_parties v at c old one → adds_marks (at + parties) c one two → adds_tickets (at + parties + marks) c two new
    → adds_fields v at c old new
fields_told v at parties marks c old one two new e f first second third = (
  two,
  (one, first, subst (λ (n : ℕ). adds_marks (at + n) c one two) e second),
  subst (λ (n : ℕ). adds_tickets (at + n + marks_size c) c two new) e (subst (λ (n : ℕ). adds_tickets (at + parties + n) c two new) f third),
)

pub content_told : (header size : ℕ) (c : Ccache) (first second : TypedPrincipal) (old one two new : List (Option Place)) → header ≡ header_size c.version c.header
    → first ≡ c.principal → second ≡ c.principal → size ≡ principal_size first → adds_header c.version 2 c.header old one
    → adds_principal (2 + header) second one two → adds_credential_list c.version (2 + header + size) c.credentials two new → adds_content c old new
content_told header size c first second old one two new e f g is fields name credentials = (
  two,
  (
    one,
    fields,
    subst (λ (n : ℕ). adds_principal (2 + n) c.principal one two) e (subst (λ (p : TypedPrincipal). adds_principal (2 + header) p one two) g name),
  ),
  subst (λ (n : ℕ). adds_credential_list c.version (2 + n + principal_size c.principal) c.credentials two new) e
      (subst (λ (n : ℕ). adds_credential_list c.version (2 + header + n) c.credentials two new) (is ∙ ap principal_size f) credentials),
)

-- what holds anyway holds if there is an error
pub on_err_anyway : {T E P : Type 0} (r : Result T E) → P → OnErr r P
on_err_anyway (Ok x) p = tt
on_err_anyway (Err e) p = p

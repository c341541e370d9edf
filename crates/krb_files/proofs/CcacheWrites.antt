-- What is written part by part, and what is refused.
use Rattle.std.proofs.Common.{◌≡◌, ℕ, ◌+◌, ◌<◌, ◌≤◌, List, [], ◌∷◌, ◌++◌, length, map, take, get_or, All, sym, ap, subst, ◌∙◌, append_assoc}
use Rattle.std.specs.List.{flat_map, AllByRecursion}
use Rattle.std.proofs.lemmas.Grind.{flat_map-append}
use Rattle.std.proofs.lemmas.List.{append-nil, map-append, take_all, take_more}
use Rattle.std.proofs.lemmas.List.Elements.{All-from_recursion, recursion_from_All, All-map, All-more, All-same}
use Rattle.krb_files.specs.FieldReading.{Typed}
use Rattle.krb_files.specs.FieldWritten.{counted_octets}
use Rattle.krb_files.specs.Ccache.{Credential, Ccache, version_octet, principal_octets, etype_octets, times_octets, credential_octets, header_octets, ccache_octets, FitsHeader, FitsCredential, FitsPrincipal, FitsCcache, CcacheIs}
use Rattle.krb_files.specs.CcacheWritten.{front_octets, back_octets, head_octets, with_credential, HasHeader, CredentialIsRefused, IsRefused}
use Rattle.krb_files.specs.declared.ccache.error.CcacheWriteError.{CcacheWriteError}
use Rattle.krb_files.specs.declared.ccache.error.CcacheWriteError.TheVariants.{HeaderInVersion3, TooLong, OutOfMemory}
use Rattle.krb_files.specs.declared.ccache.view.CcacheVersion.{CcacheVersion}
use Rattle.krb_files.specs.declared.ccache.view.CcacheVersion.TheVariants.{Three, Four}

five : (a b c d e z r0 r1 r2 : List ℕ) → r0 ≡ [] → r1 ≡ r0 ++ (a ++ (b ++ (c ++ (d ++ e)))) → r2 ≡ r1 ++ z → r2 ≡ a ++ (b ++ (c ++ (d ++ (e ++ z))))
five a b c d e z r0 r1 r2 h0 h1 h2 = rw (h2, h1, h0) (simp append_assoc)

-- a credential, of its two parts
pub credential_joined : (v : CcacheVersion) (c : Credential) (r0 r1 r2 : List ℕ) → r0 ≡ [] → r1 ≡ r0 ++ front_octets v c → r2 ≡ r1 ++ back_octets c → r2 ≡ credential_octets v c
credential_joined v c r0 r1 r2 h0 h1 h2 =
    five (principal_octets c.client) (principal_octets c.server) (etype_octets v c.etype) (counted_octets 4 c.key) (times_octets c.times) (back_octets c) r0 r1 r2 h0 h1 h2

-- one element more behind what was written of the first i
pub more_octets : {X Y : Type 0} (octets : Y → List ℕ) (f : X → Y) (xs : List X) (i : ℕ) (x : X) (front out new : List ℕ) → i < length xs → x ≡ get_or xs i x
    → out ≡ front ++ flat_map octets (map f (take i xs)) → new ≡ out ++ octets (f x) → new ≡ front ++ flat_map octets (map f (take (i + 1) xs))
more_octets octets f xs i x front out new lt is h k =
    let taken : take (i + 1) xs ≡ take i xs ++ x ∷ [] = take_more xs i x lt ∙ ap (λ y. take i xs ++ y ∷ []) (sym is) in
    let mapped : map f (take (i + 1) xs) ≡ map f (take i xs) ++ f x ∷ [] = ap (map f) taken ∙ map-append f (take i xs) (x ∷ []) in
    let all : flat_map octets (map f (take (i + 1) xs)) ≡ flat_map octets (map f (take i xs)) ++ octets (f x) =
    ap (flat_map octets) mapped ∙ flat_map-append octets (map f (take i xs)) (f x ∷ []) ∙ ap (λ l. flat_map octets (map f (take i xs)) ++ l) (append-nil (octets (f x))) in
    k ∙ ap (λ l. l ++ octets (f x)) h ∙ append_assoc front (flat_map octets (map f (take i xs))) (octets (f x)) ∙ ap (λ l. front ++ l) (sym all)

pub more_fit : {X Y : Type 0} (P : Y → Type 0) (f : X → Y) (xs : List X) (i : ℕ) (x : X) → i < length xs → x ≡ get_or xs i x → P (f x) → All (λ y. P (f y)) (take i xs) → All (λ y. P (f y)) (take (i + 1) xs)
more_fit P f xs i x lt is h all = All-more (λ y. P (f y)) xs i x lt all (subst (λ y. P (f y)) is h)

all_fit : {X Y : Type 0} (P : Y → Type 0) (f : X → Y) (xs : List X) (i : ℕ) → length xs ≤ i → All (λ y. P (f y)) (take i xs) → AllByRecursion P (map f xs)
all_fit P f xs i le h = recursion_from_All P (map f xs) (All-map P f xs (All-same (λ y. P (f y)) xs (take i xs) (sym (take_all i xs le)) h))

-- the head of a cache, and its credentials
abbrev pub cache_of : Ccache → List Credential → Ccache
cache_of c cs = record c { credentials = cs }

pub written_octets : {X : Type 0} (c : Ccache) (f : X → Credential) (xs : List X) (i : ℕ) (out : List ℕ) → length xs ≤ i
    → out ≡ head_octets c ++ flat_map (credential_octets c.version) (map f (take i xs)) → out ≡ ccache_octets (cache_of c (map f xs))
written_octets c f xs i out le h =
    let all = flat_map (credential_octets c.version) (map f xs) in
    let taken : take i xs ≡ xs = take_all i xs le in
    h ∙ ap (λ l. head_octets c ++ flat_map (credential_octets c.version) (map f l)) taken
    ∙ ap (λ (l : List ℕ). 5 ∷ version_octet c.version ∷ l) (append_assoc (header_octets c.version c.header) (principal_octets c.principal) all)

pub written_is : {X : Type 0} (c : Ccache) (f : X → Credential) (xs : List X) (i : ℕ) (out : List ℕ) → length xs ≤ i
    → out ≡ head_octets c ++ flat_map (credential_octets c.version) (map f (take i xs)) → All (λ x. FitsCredential (f x)) (take i xs)
    → FitsHeader c.version c.header → FitsPrincipal c.principal → CcacheIs out (cache_of c (map f xs))
written_is c f xs i out le h all header principal =
    (written_octets c f xs i out le h, record { header = header; principal = principal; credentials = all_fit FitsCredential f xs i le all })

-- ---- what is refused

has_header : (v : CcacheVersion) (fields : List Typed) → FitsHeader v fields → HasHeader v fields
has_header Three fields fits = fits
has_header Four fields fits = tt

refused_of : (c : Ccache) (x : Credential) (e : CcacheWriteError) → FitsHeader c.version c.header → (FitsCcache c → FitsCredential x) → CredentialIsRefused x e → IsRefused c e
refused_of c x HeaderInVersion3 header one r = absurd r
refused_of c x TooLong header one r = (has_header c.version c.header header, λ fits. r (one fits))
refused_of c x OutOfMemory header one r = tt

under : {X Y : Type 0} (P : Y → Type 0) (f : X → Y) (xs : List X) → AllByRecursion P (map f xs) → AllByRecursion (λ x. P (f x)) xs
under P f [] h = tt
under P f (x ∷ xs) h = (h.0, under P f xs h.1)

-- where a credential is refused, the cache is
pub refused : {X : Type 0} (c : Ccache) (f : X → Credential) (xs : List X) (i : ℕ) (x : X) (e : CcacheWriteError) → i < length xs → x ≡ get_or xs i x → FitsHeader c.version c.header
    → CredentialIsRefused (f x) e → IsRefused (cache_of c (map f xs)) e
refused c f xs i x e lt is header r =
    refused_of (cache_of c (map f xs)) (f x) e header
    (λ fits. subst (λ y. FitsCredential (f y)) (sym is) (All-from_recursion (λ y. FitsCredential (f y)) xs (under FitsCredential f xs fits.credentials) i x lt)) r

-- ---- a credential more

regroup : (h p a z : List ℕ) → (h ++ (p ++ a)) ++ z ≡ h ++ (p ++ (a ++ z))
regroup h p a z = simp append_assoc

last_fits : {X : Type 0} (P : X → Type 0) (xs : List X) (x : X) → AllByRecursion P xs → P x → AllByRecursion P (xs ++ x ∷ [])
last_fits P [] x all h = (h, tt)
last_fits P (y ∷ xs) x all h = (all.0, last_fits P xs x all.1 h)

pub appended : (b : List ℕ) (c : Ccache) (x : Credential) → CcacheIs b c → FitsCredential x → CcacheIs (b ++ credential_octets c.version x) (with_credential c x)
appended b c x is fits =
    let octets = credential_octets c.version in
    let all : flat_map octets (c.credentials ++ x ∷ []) ≡ flat_map octets c.credentials ++ octets x =
    flat_map-append octets c.credentials (x ∷ []) ∙ ap (λ l. flat_map octets c.credentials ++ l) (append-nil (octets x)) in (
      ap (λ l. l ++ octets x) is.0
          ∙ ap (λ (l : List ℕ). 5 ∷ version_octet c.version ∷ l) (regroup (header_octets c.version c.header) (principal_octets c.principal) (flat_map octets c.credentials) (octets x))
          ∙ ap (λ (l : List ℕ). 5 ∷ version_octet c.version ∷ (header_octets c.version c.header ++ (principal_octets c.principal ++ l))) (sym all),
      record { header = is.1.header; principal = is.1.principal; credentials = last_fits FitsCredential c.credentials x is.1.credentials fits },
    )

-- A whole credential cache: what is read is one, and one is read.
use Rattle.std.proofs.Common.{◌≡◌, ℕ, ◌<◌, Bool, true, false, cond, eqb, List, [], ◌∷◌, ◌++◌, length, Result, Ok, Err, refl, sym, ap, subst, ◌∙◌, arith}
use Rattle.std.specs.Prelude.{IfOk}
use Rattle.std.specs.List.{flat_map, AllByRecursion}
use Rattle.std.proofs.lemmas.Bool.{eqb-true}
use Rattle.std.proofs.lemmas.List.{append-nil, take_at, drop_at}
use Rattle.byteorder.specs.Endian.{big_bytes}
use Rattle.krb_files.specs.declared.fields.error.FieldError.{FieldError}
use Rattle.krb_files.specs.Alls.{IsSequence, all-takes, all-again}
use Rattle.krb_files.specs.Laws.{IsOctets, IsOctets-take, IsOctets-drop, bind_ok, ok_is, Takes, enough, wide2, number_reading, counted_reading}
use Rattle.krb_files.specs.FieldReading.{◌>>=◌, Gives, number_at, counted_at, Typed, typed_at, is_nil, all_at}
use Rattle.krb_files.specs.FieldWritten.{counted_octets, typed_octets, FitsTyped, FitsCounted}
use Rattle.krb_files.specs.Ccache.{Ccache, version_octet, principal_octets, credential_octets, header_octets, FitsCredential, FitsHeader, FitsCcache, CcacheIs}
use Rattle.krb_files.specs.CcacheReading.{principal_at, credential_at, fields_of, credentials_of, header_at, rest_of, in_field, ccache_of}
use Rattle.krb_files.specs.declared.ccache.error.CcacheError.{CcacheError}
use Rattle.krb_files.specs.declared.ccache.error.CcacheError.TheVariants.{InvalidVersion}
use Rattle.krb_files.specs.declared.ccache.view.CcacheVersion.{CcacheVersion}
use Rattle.krb_files.specs.declared.ccache.view.CcacheVersion.TheVariants.{Three, Four}
use Rattle.krb_files.proofs.Credentials.{principal_reading, credentials, fields}

-- octets in the middle of octets
middle : (x y z : List ℕ) → IsOctets ((x ++ y) ++ z) → IsOctets y
middle x y z h =
    let front : IsOctets (x ++ y) = subst IsOctets (take_at (x ++ y) z (length (x ++ y)) refl) (IsOctets-take (length (x ++ y)) ((x ++ y) ++ z) h) in
    subst IsOctets (drop_at x y (length x) refl) (IsOctets-drop (length x) (x ++ y) front)

nil_is : (b : List ℕ) → is_nil b ≡ true → b ≡ []
nil_is [] e = refl
nil_is (x ∷ b) e = absurd cc

-- all elements up to the end
all_taken : {A : Type 0} (read : List ℕ → Result (A × List ℕ) FieldError) (octets : A → List ℕ) (Fits : A → Type 0) → IsSequence is_nil read octets Fits
    → (b : List ℕ) (xs : List A) → IsOctets b → all_at is_nil read (length b) b ≡ Ok xs → (b ≡ flat_map octets xs) × AllByRecursion Fits xs
all_taken read octets Fits q b xs fits e =
    let t = all-takes is_nil read octets Fits q (length b) b xs fits (omega arith) e in
    (t.parts ∙ ap (λ (l : List ℕ). flat_map octets xs ++ l) (nil_is t.end t.stops) ∙ append-nil (flat_map octets xs), t.fits)

more : (x rest : List ℕ) → 0 < length x → is_nil (x ++ rest) ≡ false
more [] rest h = absurd (omega arith)
more (y ∷ x) rest h = refl

all_read_again : {A : Type 0} (read : List ℕ → Result (A × List ℕ) FieldError) (octets : A → List ℕ) (Fits : A → Type 0) → IsSequence is_nil read octets Fits
    → (xs : List A) → AllByRecursion Fits xs → all_at is_nil read (length (flat_map octets xs)) (flat_map octets xs) ≡ Ok xs
all_read_again read octets Fits q xs fits =
    let few = enough octets q.some xs in
    ap (all_at is_nil read (length (flat_map octets xs))) (sym (append-nil (flat_map octets xs)))
    ∙ all-again is_nil read octets Fits q.element (λ x rest f. more (octets x) rest (q.some x)) (length (flat_map octets xs)) xs [] fits refl few

header_takes : (v : CcacheVersion) (b : List ℕ) (h : List Typed) (rest : List ℕ) → IsOctets b → header_at v b ≡ Ok (h, rest) → Takes b (header_octets v h) rest × FitsHeader v h
unfolding header_at
header_takes Three b h rest fits e =
    let none : List Typed × List ℕ = ([], b) in
    subst (λ (y : List Typed × List ℕ). Takes b [] y.1 × (y.0 ≡ [])) (ok_is FieldError none (h, rest) e) (record { parts = refl; rest_fits = fits }, refl)
header_takes Four b h rest fits e =
    let a = bind_ok (counted_at 2 b) (λ c. fields_of c.0 >>= λ f. Ok (f, c.1)) (h, rest) e in
    let o = bind_ok (fields_of a.0.0) (λ f. Ok (f, a.0.1)) (h, rest) a.2 in
    let t = (counted_reading 2 wide2).takes b a.0.0 a.0.1 fits a.1 in
    let inside : IsOctets a.0.0 = middle (big_bytes 2 (length a.0.0)) a.0.0 a.0.1 (subst IsOctets t.0.parts fits) in
    let all = all_taken (typed_at 2) (typed_octets 2) (FitsTyped 2) fields a.0.0 o.0 inside o.1 in
    let made : List Typed × List ℕ = (o.0, a.0.1) in
    let there : Takes b (counted_octets 2 (flat_map (typed_octets 2) o.0)) a.0.1 × FitsCounted 2 (flat_map (typed_octets 2) o.0) =
    subst (λ (l : List ℕ). Takes b (counted_octets 2 l) a.0.1 × FitsCounted 2 l) all.0 t in
    subst (λ (y : List Typed × List ℕ). Takes b (header_octets Four y.0) y.1 × FitsHeader Four y.0) (ok_is FieldError made (h, rest) o.2) (there.0, (all.1, there.1))

header_again : (v : CcacheVersion) (h : List Typed) (rest : List ℕ) → FitsHeader v h → header_at v (header_octets v h ++ rest) ≡ Ok (h, rest)
unfolding header_at
header_again Three h rest fits = ap (λ (l : List Typed). Ok (l, rest)) (sym fits)
header_again Four h rest fits =
    rw ((counted_reading 2 wide2).again (flat_map (typed_octets 2) h) rest fits.1, all_read_again (typed_at 2) (typed_octets 2) (FitsTyped 2) fields h fits.0) refl

-- what a cache has behind its version
abbrev behind : Ccache → List ℕ
behind c = header_octets c.version c.header ++ (principal_octets c.principal ++ flat_map (credential_octets c.version) c.credentials)

pub record IsRest (v : CcacheVersion) (b : List ℕ) (c : Ccache) : Type 0 where
  pub version : c.version ≡ v
  pub octets : b ≡ behind c
  pub fits : FitsCcache c

rest_takes : (v : CcacheVersion) (b : List ℕ) (c : Ccache) → IsOctets b → rest_of v b ≡ Ok c → IsRest v b c
unfolding rest_of
rest_takes v b c fits e =
    let h = bind_ok (header_at v b) (λ h. principal_at h.1 >>= λ p. credentials_of v p.1 >>= λ cs. Ok (record { version = v; header = h.0; principal = p.0; credentials = cs })) c e in
    let p = bind_ok (principal_at h.0.1) (λ p. credentials_of v p.1 >>= λ cs. Ok (record { version = v; header = h.0.0; principal = p.0; credentials = cs })) c h.2 in
    let o = bind_ok (credentials_of v p.0.1) (λ cs. Ok (record { version = v; header = h.0.0; principal = p.0.0; credentials = cs })) c p.2 in
    let made : Ccache = record { version = v; header = h.0.0; principal = p.0.0; credentials = o.0 } in
    let t = header_takes v b h.0.0 h.0.1 fits h.1 in
    let u = principal_reading.takes h.0.1 p.0.0 p.0.1 t.0.rest_fits p.1 in
    let all = all_taken (credential_at v) (credential_octets v) FitsCredential (credentials v) p.0.1 o.0 u.0.rest_fits o.1 in
    let parts : b ≡ behind made =
    t.0.parts ∙ ap (λ (l : List ℕ). header_octets v h.0.0 ++ l) (u.0.parts ∙ ap (λ (l : List ℕ). principal_octets p.0.0 ++ l) all.0) in
    subst (IsRest v b) (ok_is FieldError made c o.2) (record { version = refl; octets = parts; fits = record { header = t.1; principal = u.1; credentials = all.1 } })

rest_again : (c : Ccache) → FitsCcache c → rest_of c.version (behind c) ≡ Ok c
unfolding rest_of
rest_again c fits =
    let all = flat_map (credential_octets c.version) c.credentials in
    rw (
      header_again c.version c.header (principal_octets c.principal ++ all) fits.header,
      principal_reading.again c.principal all fits.principal,
      all_read_again (credential_at c.version) (credential_octets c.version) FitsCredential (credentials c.version) c.credentials fits.credentials,
    ) refl

field_ok : {A : Type 0} (r : Result A FieldError) (x : A) → in_field r ≡ Ok x → r ≡ Ok x
field_ok (Ok y) x e = cc
field_ok (Err f) x e = absurd cc

version_is : (v : CcacheVersion) (b : List ℕ) (n : ℕ) (rest : List ℕ) (c : Ccache) → b ≡ big_bytes 2 n ++ rest → big_bytes 2 n ≡ 5 ∷ version_octet v ∷ [] → IsRest v rest c → CcacheIs b c
version_is v b n rest c parts number r =
    (parts ∙ ap (λ (l : List ℕ). l ++ rest) number ∙ ap (λ (w : CcacheVersion). 5 ∷ version_octet w ∷ rest) (sym r.version) ∙ ap (λ (l : List ℕ). 5 ∷ version_octet c.version ∷ l) r.octets, r.fits)

abbrev other : Bool → ℕ → Result Ccache FieldError → Result Ccache CcacheError
other four n r = cond four (in_field r) (Err (InvalidVersion n))

read_version : (b : List ℕ) (n : ℕ) (rest : List ℕ) (c : Ccache) (s t : Bool) → eqb n 0x0503 ≡ s → eqb n 0x0504 ≡ t → IsOctets rest → b ≡ big_bytes 2 n ++ rest
    → cond s (in_field (rest_of Three rest)) (other t n (rest_of Four rest)) ≡ Ok c → CcacheIs b c
read_version b n rest c true t h i fits parts e =
    version_is Three b n rest c parts (ap (big_bytes 2) (eqb-true _ _ h)) (rest_takes Three rest c fits (field_ok (rest_of Three rest) c e))
read_version b n rest c false true h i fits parts e =
    version_is Four b n rest c parts (ap (big_bytes 2) (eqb-true _ _ i)) (rest_takes Four rest c fits (field_ok (rest_of Four rest) c e))
read_version b n rest c false false h i fits parts e = absurd cc

pub ccache_takes : (b : List ℕ) (c : Ccache) → IsOctets b → ccache_of b ≡ Ok c → CcacheIs b c
unfolding ccache_of
ccache_takes b c fits e =
    let a = bind_ok (in_field (number_at 2 b)) (λ v. cond (eqb v.0 0x0503) (in_field (rest_of Three v.1)) (other (eqb v.0 0x0504) v.0 (rest_of Four v.1))) c e in
    let t = (number_reading 2 wide2).takes b a.0.0 a.0.1 fits (field_ok (number_at 2 b) a.0 a.1) in
    read_version b a.0.0 a.0.1 c (eqb a.0.0 0x0503) (eqb a.0.0 0x0504) refl refl t.0.rest_fits t.0.parts a.2

again_from : (v : CcacheVersion) (c : Ccache) → c.version ≡ v → FitsCcache c → ccache_of (5 ∷ version_octet v ∷ behind c) ≡ Ok c
unfolding ccache_of
again_from Three c e fits =
    let number = (number_reading 2 wide2).again 0x0503 (behind c) (omega arith) in
    let rest : rest_of Three (behind c) ≡ Ok c = ap (λ (w : CcacheVersion). rest_of w (behind c)) (sym e) ∙ rest_again c fits in
    rw (number, rest) refl
again_from Four c e fits =
    let number = (number_reading 2 wide2).again 0x0504 (behind c) (omega arith) in
    let rest : rest_of Four (behind c) ≡ Ok c = ap (λ (w : CcacheVersion). rest_of w (behind c)) (sym e) ∙ rest_again c fits in
    rw (number, rest) refl

pub ccache_again : (b : List ℕ) (c : Ccache) → CcacheIs b c → ccache_of b ≡ Ok c
ccache_again b c is = ap ccache_of is.0 ∙ again_from c.version c refl is.1

pub is_found : (b : List ℕ) (r : Result Ccache CcacheError) → IsOctets b → Gives (λ c. c) r (ccache_of b) → IfOk r (CcacheIs b)
is_found b (Ok c) fits given = ccache_takes b c fits given
is_found b (Err e) fits given = tt

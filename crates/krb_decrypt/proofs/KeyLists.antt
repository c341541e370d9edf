-- Keys behind keys.
use Rattle.std.proofs.Common.{arith, refl, ◌≡◌, ℕ, List, [], ◌∷◌, ◌++◌, length, map, subst}
use Rattle.std.proofs.lemmas.List.{append-nil, append_assoc}
use Rattle.krb_crypto.specs.declared.cipher_suite.CipherSuite.TheVariants as suites
use Rattle.krb_decrypt.specs.Keys.{NamedKey}
use Rattle.krb_decrypt.specs.PasswordKeys.{KeyUnder, KeysOfSalt, OfEach, adds}

-- what the keys so far are with those of what is left
abbrev pub Continues : {V X : Type 0} → (V → X) → (X → List NamedKey → Type 0) → List V → List V → List NamedKey → Type 0
Continues view gives rest all keys = (more : List NamedKey) → OfEach gives (map view rest) more → OfEach gives (map view all) (keys ++ more)

-- those of one more
pub continues_more : {V X : Type 0} (view : V → X) (gives : X → List NamedKey → Type 0) (v : V) (rest behind all : List V) (keys after : List NamedKey)
    → rest ≡ v ∷ behind → Continues view gives rest all keys → adds (gives (view v)) keys after → Continues view gives behind all after
continues_more view gives v rest behind all keys after e h (mine, are, p) = λ more follow.
    let whole : OfEach gives (map view rest) (mine ++ more) = rw e (mine, more, are, follow, refl) in
    rw (p, append_assoc keys mine more) (h (mine ++ more) whole)

-- none is left
pub continues_none : {V X : Type 0} (view : V → X) (gives : X → List NamedKey → Type 0) (rest all : List V) (keys : List NamedKey)
    → length rest ≡ 0 → Continues view gives rest all keys → OfEach gives (map view all) keys
continues_none view gives [] all keys e h = subst (OfEach gives (map view all)) (append-nil keys) (h [] refl)
continues_none view gives (r ∷ rest) all keys e h = absurd (omega (arith, e))

-- those of the five suites
pub five_more : (password salt : List ℕ) (old k1 k2 k3 k4 k5 : List NamedKey)
    → adds (KeyUnder password salt suites.Aes128CtsHmacSha196) old k1 → adds (KeyUnder password salt suites.Aes256CtsHmacSha196) k1 k2
    → adds (KeyUnder password salt suites.Aes128CtsHmacSha256128) k2 k3 → adds (KeyUnder password salt suites.Aes256CtsHmacSha384192) k3 k4
    → adds (KeyUnder password salt suites.Des3CbcSha1Kd) k4 k5 → adds (KeysOfSalt password salt) old k5
five_more password salt old k1 k2 k3 k4 k5 (a, is_a, p) (b, is_b, q) (c, is_c, r) (d, is_d, s) (e, is_e, t) =
    let all : k5 ≡ old ++ (a ++ b ++ c ++ d ++ e) = rw (t, s, r, q, p) (simp append_assoc refl) in (
      a ++ b ++ c ++ d ++ e,
      record {
        aes128 = a;
        is_aes128 = is_a;
        aes256 = b;
        is_aes256 = is_b;
        aes128_sha2 = c;
        is_aes128_sha2 = is_c;
        aes256_sha2 = d;
        is_aes256_sha2 = is_d;
        des3 = e;
        is_des3 = is_e;
        all = refl;
      },
      all,
    )

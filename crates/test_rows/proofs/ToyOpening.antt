-- What the cipher of the tests opens is what it sealed.
use Rattle.std.proofs.Common.{rules, Fits, w8, lit<, zero, suc, slice_index, ◌≡◌, ℕ, ◌<◌, ◌≤◌, ◌%◌, ◌+◌, ◌-◌, List, [], ◌∷◌, ◌++◌, length, take, drop, map, bit_xor, replicate, ap, sym, ◌∙◌, refl, arith, append_assoc, subst, inl, inr}
use Rattle.std.proofs.Math.Seq.{drop-append_seam, take-append_seam}
use Rattle.std.proofs.lemmas.List.{map-append, length-map, drop-map, take-append-drop, append-nil, length-take, length-drop, length-append, length-replicate, take_all}
use Rattle.std.proofs.Math.Facts.{Fits-xor}
use Rattle.std.specs.Int.Bits.{xor_assoc, xor_self, xor_zero_r}
use Rattle.std.specs.List.{take-map}
use Rattle.krb_crypto_hash.specs.CryptoError.{IsMemoryOr}
use Rattle.krb_crypto_hash.specs.declared.error.KerberosCryptoError.{KerberosCryptoError}
use Rattle.krb_der.specs.Encoding.{IsOctets}
use Rattle.krb_crypto_block.specs.Modes.{IsPadding}
use Rattle.krb_crypto_message.specs.Sealing.{IsGiven, IsOfNone, IsSplit, Encrypts, Decrypts, Opens}
use Rattle.test_rows.specs.Toy.{IsToy}

-- ---- octets

xor_twice : (x k : ℕ) → bit_xor (bit_xor x k) k ≡ x
xor_twice x k = xor_assoc x k k ∙ ap (bit_xor x) (xor_self k) ∙ xor_zero_r x

pub map_twice : (k : ℕ) (xs : List ℕ) → map (λ x. bit_xor x k) (map (λ x. bit_xor x k) xs) ≡ xs
map_twice k [] = refl
map_twice k (x ∷ xs) = cc (xor_twice x k, map_twice k xs)

xor_small : (x k : ℕ) → x < 256 → k < 256 → bit_xor x k < 256
xor_small x k a b =
    let fx : Fits w8 x = search rules in
    let fk : Fits w8 k = search rules in
    (Fits-xor fx fk).fits

-- combined octets are octets
pub xor_octets : (k : ℕ) (xs : List ℕ) → k < 256 → IsOctets xs → IsOctets (map (λ x. bit_xor x k) xs)
xor_octets k [] small all i = all i
xor_octets k (x ∷ xs) small all zero = xor_small x k (all zero) small
xor_octets k (x ∷ xs) small all (suc i) = xor_octets k xs small (λ j. all (suc j)) i

pub octets-append : (xs ys : List ℕ) → IsOctets xs → IsOctets ys → IsOctets (xs ++ ys)
octets-append [] ys p q i = q i
octets-append (x ∷ xs) ys p q zero = p zero
octets-append (x ∷ xs) ys p q (suc i) = octets-append xs ys (λ j. p (suc j)) q i

pub octets_zeros : (n : ℕ) → IsOctets (replicate n 0)
octets_zeros zero i = lit< tt
octets_zeros (suc n) zero = lit< tt
octets_zeros (suc n) (suc i) = octets_zeros n i

-- a list's one octet is an octet
pub only_octet : (k : ℕ) (xs : List ℕ) → xs ≡ k ∷ [] → IsOctets xs → k < 256
only_octet k xs e all = let P : List ℕ → Type 0 = λ ys. slice_index ys 0 < 256 in subst P e (all 0)

-- ---- fills

-- the list with so many zeros after it is its padding
pub padding_is : (prefix padded : List ℕ) (zeros : ℕ) → zeros < 4 → (length prefix + zeros) % 4 ≡ 0 → padded ≡ prefix ++ replicate zeros 0 → IsPadding 4 prefix padded
padding_is prefix padded zeros few even e = record {
  zeros = zeros;
  fewer = few;
  concatenated = e;
  whole = ap (λ (l : List ℕ). length l % 4) e ∙ simp (length-append, length-replicate) even;
}

-- and so is the list, made as long as the next multiple of four
pub resized_padding : (prefix padded : List ℕ) (n len : ℕ) → padded ≡ take n prefix ++ replicate (n - len) 0 → len ≡ length prefix → n ≡ len + (4 - len % 4) % 4 → IsPadding 4 prefix padded
resized_padding prefix padded n len e same next =
    let zeros : n - len ≡ (4 - length prefix % 4) % 4 = omega (arith, same, next) in
    let long : length prefix ≤ n = omega (arith, same, next) in
    padding_is prefix padded ((4 - length prefix % 4) % 4) (omega arith) (omega arith)
    (e ∙ ap (λ l. l ++ replicate (n - len) 0) (take_all n prefix long) ∙ ap (λ k. prefix ++ replicate k 0) zeros)

pub padding_octets : (size : ℕ) (prefix padded : List ℕ) → IsPadding size prefix padded → IsOctets prefix → IsOctets padded
padding_octets size prefix padded fill all = subst IsOctets (sym fill.concatenated) (octets-append prefix (replicate fill.zeros 0) all (octets_zeros fill.zeros))

-- ---- decrypting

no_octets : (xs : List ℕ) → length xs ≡ 0 → xs ≡ []
no_octets [] e = refl
no_octets (x ∷ xs) e = absurd (omega (arith, e))

-- no checksum is after the octets
pub without_checksum : (meaning : List ℕ → List ℕ → List ℕ → Type 0) (confounder payload octets : List ℕ) → Encrypts meaning 0 confounder payload octets → meaning confounder payload octets
without_checksum meaning confounder payload octets e =
    subst (meaning confounder payload) (ap (λ rest. octets ++ rest) (no_octets e.checksum e.size_is) ∙ append-nil octets) e.means

pub with_checksum : (meaning : List ℕ → List ℕ → List ℕ → Type 0) (confounder payload octets : List ℕ) → meaning confounder payload octets → Encrypts meaning 0 confounder payload octets
with_checksum meaning confounder payload octets means = record { checksum = []; size_is = refl; means = subst (meaning confounder payload) (sym (append-nil octets)) means }

-- the octets that are opened, combined with the key's octet, are the confounder, the payload and its padding
pub opened_is : (k : ℕ) (key confounder payload octets : List ℕ) → key ≡ k ∷ [] → length confounder ≡ 4 → (means : IsToy key confounder payload octets)
    → map (λ x. bit_xor x k) octets ≡ confounder ++ (payload ++ replicate means.fill.zeros 0)
opened_is k key confounder payload octets key_is four means =
    let same : means.octet ≡ k = cc (sym means.key_is ∙ key_is) in
    ap (map (λ x. bit_xor x k)) (means.xored ∙ ap (λ o. map (λ x. bit_xor x o) means.padded) same) ∙ map_twice k means.padded
    ∙ means.fill.concatenated ∙ append_assoc confounder payload (replicate means.fill.zeros 0)

pub prefix_is : (k : ℕ) (octets prefix back : List ℕ) → length prefix ≡ 4 → map (λ x. bit_xor x k) octets ≡ prefix ++ back → prefix ≡ map (λ x. bit_xor x k) (take 4 octets)
prefix_is k octets prefix back four e =
    sym (subst (λ n. take n (prefix ++ back) ≡ prefix) four (take-append_seam prefix back)) ∙ ap (take 4) (sym e) ∙ take-map (λ x. bit_xor x k) 4 octets

pub back_is : (k : ℕ) (octets prefix back : List ℕ) → length prefix ≡ 4 → map (λ x. bit_xor x k) octets ≡ prefix ++ back → map (λ x. bit_xor x k) (drop 4 octets) ≡ back
back_is k octets prefix back four e =
    sym (drop-map (λ x. bit_xor x k) 4 octets) ∙ ap (drop 4) e ∙ subst (λ n. drop n (prefix ++ back) ≡ back) four (drop-append_seam prefix back)

-- whole blocks of four octets are those of one confounder and of each payload that the rest is the padded form of
pub toy_decrypts : (k : ℕ) (key octets : List ℕ) → k < 256 → IsOctets octets → key ≡ k ∷ [] → 4 ≤ length octets → length octets % 4 ≡ 0
    → Decrypts 4 4 (Encrypts (λ confounder payload bytes. IsToy key confounder payload bytes) 0) octets (map (λ x. bit_xor x k) (take 4 octets)) (map (λ x. bit_xor x k) (drop 4 octets))
toy_decrypts k key octets small all key_is long whole =
    let xor : List ℕ → List ℕ = map (λ x. bit_xor x k) in
    let size : length (xor (drop 4 octets)) + 4 ≡ length octets = simp (length-map, length-drop) (omega (arith, long)) in
    let even : length (xor (drop 4 octets)) % 4 ≡ 0 = omega (arith, size, whole) in
    record {
      size_is = simp (length-map, length-take) (omega (arith, long));
      whole = record { zeros = 0; fewer = omega arith; concatenated = sym (append-nil (xor (drop 4 octets))); whole = even };
      exactly = λ other payload four. (
        (λ encrypts.
            let means = without_checksum (λ confounder payload bytes. IsToy key confounder payload bytes) other payload octets encrypts in
            let e = opened_is k key other payload octets key_is four means in (
              prefix_is k octets other (payload ++ replicate means.fill.zeros 0) four e,
              record {
                zeros = means.fill.zeros;
                fewer = means.fill.fewer;
                concatenated = back_is k octets other (payload ++ replicate means.fill.zeros 0) four e;
                whole = even;
              },
            )),
        (λ both. with_checksum (λ confounder payload bytes. IsToy key confounder payload bytes) other payload octets (record {
          octet = k;
          padded = xor octets;
          key_is = key_is;
          fill = record {
            zeros = both.1.zeros;
            fewer = both.1.fewer;
            concatenated = ap xor (sym (take-append-drop 4 octets)) ∙ map-append (λ x. bit_xor x k) (take 4 octets) (drop 4 octets)
                ∙ cc (both.0, both.1.concatenated) ∙ sym (append_assoc other payload (replicate both.1.zeros 0));
            whole = simp length-map whole;
          };
          of_octets = xor_octets k octets small all;
          xored = sym (map_twice k octets);
        })),
      );
    }

-- ---- the calls with a checksum, by those without

module _ (meaning : List ℕ → List ℕ → List ℕ → Type 0) (confounder_size fill_size : ℕ) (octets : List ℕ) where
  -- octets that are rejected whatever the checksum after them are rejected
  pub rejected_without : (e : KerberosCryptoError) → IsMemoryOr e ((encrypted checksum : List ℕ) → IsSplit 0 octets encrypted checksum → IsOfNone (IsGiven (Encrypts meaning 0) confounder_size encrypted))
      → IsMemoryOr e (IsOfNone (IsGiven meaning confounder_size octets))
  rejected_without e why = elim why [
    | inl memory ↦ inl memory
    | inr none ↦ inr (λ payload given. none octets [] (record { concatenated = sym (append-nil octets); size_is = refl }) payload
        (record { confounder = given.confounder; size_is = given.size_is; means = with_checksum meaning given.confounder payload octets given.means }))
  ]

  -- what is decrypted is what is opened
  pub opens_without : (encrypted checksum confounder plaintext : List ℕ) → IsSplit 0 octets encrypted checksum → Decrypts fill_size confounder_size (Encrypts meaning 0) encrypted confounder plaintext
      → Opens fill_size (IsGiven meaning confounder_size octets) plaintext
  opens_without encrypted checksum confounder plaintext split decrypts =
      let same : octets ≡ encrypted = split.concatenated ∙ ap (λ rest. encrypted ++ rest) (no_octets checksum split.size_is) ∙ append-nil encrypted in
      record {
        whole = decrypts.whole;
        exactly = λ payload. (
          (λ given. ((decrypts.exactly given.confounder payload given.size_is).0
              (with_checksum meaning given.confounder payload encrypted (subst (meaning given.confounder payload) same given.means))).1),
          (λ fill. record {
            confounder = confounder;
            size_is = decrypts.size_is;
            means = subst (meaning confounder payload) (sym same)
                (without_checksum meaning confounder payload encrypted ((decrypts.exactly confounder payload decrypts.size_is).1 (refl, fill)));
          }),
        );
      }

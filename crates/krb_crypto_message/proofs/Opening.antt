-- What is opened is what was sealed, for anything that one list of octets at most is encrypted to.
use Rattle.std.proofs.Common.{◌≡◌, ◌≢◌, ℕ, ◌≤◌, ◌<◌, ◌%◌, ◌+◌, ◌-◌, List, ◌++◌, length, take, drop, replicate, ap, sym, ◌∙◌, refl, arith, length-append, append_assoc, subst}
use Rattle.std.proofs.Math.Seq.{take-append_seam, drop-append_seam}
use Rattle.std.proofs.lemmas.List.{take-append-drop, length-take-le, length-drop, take_at}
use Rattle.krb_crypto_block.specs.Modes.{IsOctets, IsPadding}
use Rattle.krb_crypto_block.proofs.Filling.{IsPadding-one, IsPadding-whole, IsPadding-trailing, IsPadding-before, IsPadding-octets, IsPadding-prefix, rest_whole}
use Rattle.krb_crypto_message.specs.Sealing.{IsGiven, IsOfNone, IsTheOne, Opens, Encrypts, IsSplit, Decrypts}
use Rattle.krb_crypto_message.specs.Sealed.{IsSealedBy}
use Rattle.krb_crypto_message.specs.MessageSteps.{end_of, IsDecrypted}

-- confounder and payload, padded to a multiple of padding octets and encrypted, and the key Ki
pub record IsEncrypted (padding : ℕ) (encrypts : List ℕ → List ℕ → Type 0) (integrity_key confounder payload padded encrypted ki : List ℕ) : Type 0 where
  pub padding_is : IsPadding padding (confounder ++ payload) padded
  pub octets : IsOctets padded
  pub encrypted_octets : encrypts padded encrypted
  pub ki_is : ki ≡ integrity_key

-- what is asked of a scheme: confounders of n octets are whole multiples of the padding size; its checksum has h octets, and is the tag that the calls
-- compute under the integrity key; no list is encrypted to two; and encrypted octets have a length of this shape
pub record IsScheme (padding n h : ℕ) (encrypts : List ℕ → List ℕ → Type 0) (mac : List ℕ → List ℕ → List ℕ) (tag : List ℕ → List ℕ → List ℕ → List ℕ) (integrity_key : List ℕ) (Shape : ℕ → Type 0) : Type 0 where
  pub some : 0 < padding
  pub multiple : n % padding ≡ 0
  pub sized : (p c : List ℕ) → length (mac p c) ≡ h
  pub computed : (p c : List ℕ) → tag integrity_key p c ≡ mac p c
  pub same : (p c d : List ℕ) → encrypts p c → encrypts p d → c ≡ d
  pub shaped : (p c : List ℕ) → IsOctets p → n ≤ length p → encrypts p c → Shape (length c)

-- a list that ends in the tag is its prefix and the tag
prefix_of : (prefix tag bytes : List ℕ) (h : ℕ) → length tag ≡ h → bytes ≡ prefix ++ tag → take (length bytes - h) bytes ≡ prefix
prefix_of prefix tag bytes h len e =
    let size : length bytes - h ≡ length prefix = omega (arith, len, simp length-append at (ap length e)) in
    subst (λ n. take n bytes ≡ prefix) (sym size) (ap (take (length prefix)) e ∙ take-append_seam prefix tag)

-- and after the prefix is the tag
back_of : (prefix tag bytes : List ℕ) (h : ℕ) → length tag ≡ h → bytes ≡ prefix ++ tag → drop (length bytes - h) bytes ≡ tag
back_of prefix tag bytes h len e =
    let size : length bytes - h ≡ length prefix = omega (arith, len, simp length-append at (ap length e)) in
    subst (λ n. drop n bytes ≡ tag) (sym size) (ap (drop (length prefix)) e ∙ drop-append_seam prefix tag)

-- the octets are those without their last h, and these
split_end : (bytes end : List ℕ) (h : ℕ) → h ≤ length bytes → end ≡ drop (length bytes - h) bytes → IsSplit h bytes (take (length bytes - h) bytes) end
split_end bytes end h long e = record {
  concatenated = sym (take-append-drop (length bytes - h) bytes) ∙ ap (λ (k : List ℕ). take (length bytes - h) bytes ++ k) (sym e);
  size_is = ap length e ∙ omega (arith, long, length-drop (length bytes - h) bytes);
}

-- what a payload was sealed to is opened to its padding
pub opened_as : (padding : ℕ) (meaning : List ℕ → List ℕ → List ℕ → Type 0) (n : ℕ) (confounder payload octets opened : List ℕ) → length confounder ≡ n → meaning confounder payload octets
    → Opens padding (IsGiven meaning n octets) opened → IsPadding padding payload opened
opened_as padding meaning n confounder payload octets opened size sealed opens = (opens.exactly payload).0 (record { confounder = confounder; size_is = size; means = sealed })

-- and it is not what nothing is sealed to
pub not_of_none : (meaning : List ℕ → List ℕ → List ℕ → Type 0) (n : ℕ) (confounder payload octets : List ℕ) → length confounder ≡ n → meaning confounder payload octets
    → ¬ (IsOfNone (IsGiven meaning n octets))
not_of_none meaning n confounder payload octets size sealed none = none payload (record { confounder = confounder; size_is = size; means = sealed })

module _ {padding n h : ℕ} {encrypts : List ℕ → List ℕ → Type 0} {mac : List ℕ → List ℕ → List ℕ} {tag : List ℕ → List ℕ → List ℕ → List ℕ} {integrity_key : List ℕ} {Shape : ℕ → Type 0} (scheme : IsScheme padding n h encrypts mac tag integrity_key Shape) where
  -- what is sealed ends in the MAC of the one list that its prefix decrypts to
  cut : (bytes confounder payload : List ℕ) (sealed : IsSealedBy padding encrypts mac confounder payload bytes)
      → encrypts sealed.padded (take (length bytes - h) bytes) × (drop (length bytes - h) bytes ≡ mac sealed.padded (take (length bytes - h) bytes))
  cut bytes confounder payload sealed =
      let end : List ℕ = mac sealed.padded sealed.cipher in
      let prefix : take (length bytes - h) bytes ≡ sealed.cipher = prefix_of sealed.cipher end bytes h (scheme.sized sealed.padded sealed.cipher) sealed.concatenated in (
        subst (encrypts sealed.padded) (sym prefix) sealed.encrypted_octets,
        back_of sealed.cipher end bytes h (scheme.sized sealed.padded sealed.cipher) sealed.concatenated ∙ ap (mac sealed.padded) (sym prefix),
      )

  padded_octets : (bytes confounder payload : List ℕ) (sealed : IsSealedBy padding encrypts mac confounder payload bytes) → IsOctets sealed.padded
  padded_octets bytes confounder payload sealed = IsPadding-octets padding (confounder ++ payload) sealed.padded sealed.padding_is sealed.of_octets

  -- the padded form of a payload after n octets of a confounder is what stands there
  padding_trailing : (confounder payload padded : List ℕ) → length confounder ≡ n → IsPadding padding (confounder ++ payload) padded
      → IsPadding padding payload (drop n padded)
  padding_trailing confounder payload padded size is =
      subst (λ k. IsPadding padding payload (drop k padded)) size (IsPadding-trailing padding confounder payload padded (rw size scheme.multiple) is)

  padding_before : (payload padded : List ℕ) → n ≤ length padded → IsPadding padding payload (drop n padded) → IsPadding padding (take n padded ++ payload) padded
  padding_before payload padded long is =
      let prefix : length (take n padded) % padding ≡ 0 = rw (length-take-le n padded long) scheme.multiple in
      subst (IsPadding padding (take n padded ++ payload)) (take-append-drop n padded) (IsPadding-before padding (take n padded) payload (drop n padded) prefix is)

  rest_is_whole : (padded : List ℕ) → n ≤ length padded → length padded % padding ≡ 0 → IsPadding padding (drop n padded) (drop n padded)
  rest_is_whole padded long whole = IsPadding-whole padding scheme.some (drop n padded) (rw length-drop (rest_whole padding n padded scheme.multiple long whole))

  -- the tag that is compared is the one that is sealed
  tag_is : (padded cipher ki : List ℕ) → ki ≡ integrity_key → tag ki padded cipher ≡ mac padded cipher
  tag_is padded cipher ki same = ap (λ (k : List ℕ). tag k padded cipher) same ∙ scheme.computed padded cipher

  -- bytes whose end is the MAC of the one list that their prefix decrypts to
  pub seal_opens : (bytes padded ki : List ℕ) → IsDecrypted padding n h encrypts integrity_key bytes padded ki
      → end_of h bytes ≡ tag ki padded (take (length bytes - h) bytes) → Opens padding (IsGiven (IsSealedBy padding encrypts mac) n bytes) (drop n padded)
  seal_opens bytes padded ki d ends = record {
    whole = rest_is_whole padded d.prefix d.whole;
    exactly = λ q. (
      (λ given.
          let sealed = given.means in
          let e : sealed.padded ≡ padded = d.only sealed.padded (padded_octets bytes given.confounder q sealed) (cut bytes given.confounder q sealed).0 in
          padding_trailing given.confounder q padded given.size_is (subst (IsPadding padding (given.confounder ++ q)) e sealed.padding_is)),
      (λ is.
          let all : IsPadding padding (take n padded ++ q) padded = padding_before q padded d.prefix is in
          record {
            confounder = take n padded;
            size_is = length-take-le n padded d.prefix;
            means = record {
              of_octets = IsPadding-prefix padding (take n padded ++ q) padded all d.of_octets;
              padded = padded;
              padding_is = all;
              cipher = take (length bytes - h) bytes;
              encrypted_octets = d.encrypted_octets;
              concatenated = sym (take-append-drop (length bytes - h) bytes) ∙ ap (λ r. take (length bytes - h) bytes ++ r) (ends ∙ tag_is padded (take (length bytes - h) bytes) ki d.ki_is);
            };
          }),
    );
  }

  -- bytes whose end is another list are given for no payload
  pub none_sealed : (bytes padded ki : List ℕ) → IsDecrypted padding n h encrypts integrity_key bytes padded ki
      → end_of h bytes ≢ tag ki padded (take (length bytes - h) bytes) → IsOfNone (IsGiven (IsSealedBy padding encrypts mac) n bytes)
  none_sealed bytes padded ki d other q given =
      let sealed = given.means in
      let parts = cut bytes given.confounder q sealed in
      let prefix : List ℕ = take (length bytes - h) bytes in
      other (parts.1 ∙ ap (λ p. mac p prefix) (d.only sealed.padded (padded_octets bytes given.confounder q sealed) parts.0) ∙ sym (tag_is padded prefix ki d.ki_is))

  -- nor are bytes whose end is the MAC of their prefix with no list
  pub none_ends : (bytes : List ℕ) → ((p : List ℕ) → end_of h bytes ≢ mac p (take (length bytes - h) bytes)) → IsOfNone (IsGiven (IsSealedBy padding encrypts mac) n bytes)
  none_ends bytes other q given = other given.means.padded (cut bytes given.confounder q given.means).1

  -- what is written is the one list that is sealed
  pub seals : (confounder payload padded cipher ki bytes : List ℕ)
      → IsEncrypted padding encrypts integrity_key confounder payload padded cipher ki → bytes ≡ cipher ++ tag ki padded cipher
      → IsTheOne (IsSealedBy padding encrypts mac confounder payload) bytes
  seals confounder payload padded cipher ki bytes e concatenated =
      let into : bytes ≡ cipher ++ mac padded cipher = concatenated ∙ ap (λ r. cipher ++ r) (tag_is padded cipher ki e.ki_is) in
      record {
        holds = record { of_octets = IsPadding-prefix padding (confounder ++ payload) padded e.padding_is e.octets; padded = padded; padding_is = e.padding_is; cipher = cipher; encrypted_octets = e.encrypted_octets; concatenated = into };
        only = λ other sealed.
            let one : sealed.padded ≡ padded = IsPadding-one padding (confounder ++ payload) sealed.padded padded sealed.padding_is e.padding_is in
            let held : encrypts padded sealed.cipher = subst (λ p. encrypts p sealed.cipher) one sealed.encrypted_octets in
            sealed.concatenated ∙ ap (λ m. sealed.cipher ++ mac m sealed.cipher) one ∙ ap (λ c. c ++ mac padded c) (scheme.same padded sealed.cipher cipher held e.encrypted_octets) ∙ sym into;
      }

  -- ---- without the checksum

  -- what is encrypted is encrypted, whatever checksum is after it
  record IsMade (confounder payload encrypted : List ℕ) : Type 0 where
    of_octets : IsOctets (confounder ++ payload)
    padded : List ℕ
    padding_is : IsPadding padding (confounder ++ payload) padded
    encrypted_octets : encrypts padded encrypted

  made_from : (confounder payload encrypted : List ℕ) → Encrypts (IsSealedBy padding encrypts mac) h confounder payload encrypted → IsMade confounder payload encrypted
  made_from confounder payload encrypted made =
      let sealed = made.means in
      let end : List ℕ = mac sealed.padded sealed.cipher in
      let size : length encrypted ≡ length sealed.cipher =
      omega (arith, made.size_is, scheme.sized sealed.padded sealed.cipher, simp length-append at (ap length sealed.concatenated)) in
      let same : sealed.cipher ≡ encrypted = sym (take_at sealed.cipher end (length encrypted) (sym size)) ∙ ap (take (length encrypted)) (sym sealed.concatenated) ∙ take_at encrypted made.checksum (length encrypted) refl in
      record { of_octets = sealed.of_octets; padded = sealed.padded; padding_is = sealed.padding_is; encrypted_octets = subst (encrypts sealed.padded) same sealed.encrypted_octets }

  encrypts_to : (confounder payload padded encrypted : List ℕ) → IsPadding padding (confounder ++ payload) padded → IsOctets padded → encrypts padded encrypted
      → Encrypts (IsSealedBy padding encrypts mac) h confounder payload encrypted
  encrypts_to confounder payload padded encrypted is octets held = record {
    checksum = mac padded encrypted;
    size_is = scheme.sized padded encrypted;
    means = record { of_octets = IsPadding-prefix padding (confounder ++ payload) padded is octets; padded = padded; padding_is = is; cipher = encrypted; encrypted_octets = held; concatenated = refl };
  }

  -- what is encrypted is the one list that is
  pub encrypts_one : (confounder payload padded encrypted ki : List ℕ)
      → IsEncrypted padding encrypts integrity_key confounder payload padded encrypted ki → IsTheOne (Encrypts (IsSealedBy padding encrypts mac) h confounder payload) encrypted
  encrypts_one confounder payload padded encrypted ki e = record {
    holds = encrypts_to confounder payload padded encrypted e.padding_is e.octets e.encrypted_octets;
    only = λ other made.
        let from : IsMade confounder payload other = made_from confounder payload other made in
        let one : from.padded ≡ padded = IsPadding-one padding (confounder ++ payload) from.padded padded from.padding_is e.padding_is in
        scheme.same padded other encrypted (subst (λ p. encrypts p other) one from.encrypted_octets) e.encrypted_octets;
  }

  -- what is decrypted is the one confounder and payload
  pub decrypts : (bytes padded ki : List ℕ) → IsDecrypted padding n h encrypts integrity_key bytes padded ki
      → Decrypts padding n (Encrypts (IsSealedBy padding encrypts mac) h) (take (length bytes - h) bytes) (take n padded) (drop n padded)
  decrypts bytes padded ki d =
      let encrypted : List ℕ = take (length bytes - h) bytes in
      record {
        size_is = length-take-le n padded d.prefix;
        whole = rest_is_whole padded d.prefix d.whole;
        exactly = λ other payload size. (
          (λ made.
              let from : IsMade other payload (take (length bytes - h) bytes) = made_from other payload (take (length bytes - h) bytes) made in
              let e : from.padded ≡ padded = d.only from.padded (IsPadding-octets padding (other ++ payload) from.padded from.padding_is from.of_octets) from.encrypted_octets in
              let all : IsPadding padding (other ++ payload) padded = subst (IsPadding padding (other ++ payload)) e from.padding_is in (
                sym (ap (take n) (all.concatenated ∙ append_assoc other payload (replicate all.zeros 0)) ∙ take_at other (payload ++ replicate all.zeros 0) n size),
                padding_trailing other payload padded size all,
              )),
          (λ both.
              let all : IsPadding padding (take n padded ++ payload) padded = padding_before payload padded d.prefix both.1 in
              let here : IsPadding padding (other ++ payload) padded = subst (λ prefix. IsPadding padding (prefix ++ payload) padded) (sym both.0) all in
              encrypts_to other payload padded (take (length bytes - h) bytes) here d.of_octets d.encrypted_octets),
        );
      }

  -- and its octets are those before the checksum
  pub splits : (bytes padded ki confounder plaintext checksum : List ℕ) → IsDecrypted padding n h encrypts integrity_key bytes padded ki
      → (confounder ≡ take n padded) × (plaintext ≡ drop n padded) × (checksum ≡ end_of h bytes)
      → (encrypted : List ℕ) × IsSplit h bytes encrypted checksum × Decrypts padding n (Encrypts (IsSealedBy padding encrypts mac) h) encrypted confounder plaintext
  splits bytes padded ki confounder plaintext checksum d is = (
    take (length bytes - h) bytes,
    split_end bytes checksum h (omega (arith, d.long)) is.2,
    rw (is.0, is.1) (decrypts bytes padded ki d),
  )

  -- ---- what is too short, or not of whole blocks

  padding_long : (confounder payload padded : List ℕ) → length confounder ≡ n → IsPadding padding (confounder ++ payload) padded → n ≤ length padded
  padding_long confounder payload padded size is =
      omega (arith, size, simp length-append at (ap length is.concatenated))

  -- nothing is encrypted to it
  pub none_encrypted : (encrypted : List ℕ) → ¬ Shape (length encrypted) → IsOfNone (IsGiven (Encrypts (IsSealedBy padding encrypts mac) h) n encrypted)
  none_encrypted encrypted other payload given =
      let from : IsMade given.confounder payload encrypted = made_from given.confounder payload encrypted given.means in
      other (scheme.shaped from.padded encrypted (IsPadding-octets padding (given.confounder ++ payload) from.padded from.padding_is from.of_octets) (padding_long given.confounder payload from.padded given.size_is from.padding_is) from.encrypted_octets)

  -- nothing is sealed to what has it before h octets
  pub none_shaped : (bytes : List ℕ) → ¬ ((h ≤ length bytes) × Shape (length bytes - h)) → IsOfNone (IsGiven (IsSealedBy padding encrypts mac) n bytes)
  none_shaped bytes other payload given =
      let sealed = given.means in
      let shape : Shape (length sealed.cipher) = scheme.shaped sealed.padded sealed.cipher (padded_octets bytes given.confounder payload sealed) (padding_long given.confounder payload sealed.padded given.size_is sealed.padding_is) sealed.encrypted_octets in
      let size : length bytes ≡ length sealed.cipher + h = ap length sealed.concatenated ∙ length-append sealed.cipher (mac sealed.padded sealed.cipher) ∙ ap (λ (k : ℕ). length sealed.cipher + k) (scheme.sized sealed.padded sealed.cipher) in
      let prefix : length sealed.cipher ≡ length bytes - h = omega (arith, size) in
      other (omega (arith, size), subst Shape prefix shape)

  pub none_split : (bytes : List ℕ) → ¬ ((h ≤ length bytes) × Shape (length bytes - h)) → (encrypted checksum : List ℕ) → IsSplit h bytes encrypted checksum
      → IsOfNone (IsGiven (Encrypts (IsSealedBy padding encrypts mac) h) n encrypted)
  none_split bytes other encrypted checksum split =
      let size : length bytes ≡ length encrypted + h = ap length split.concatenated ∙ length-append encrypted checksum ∙ ap (λ (k : ℕ). length encrypted + k) split.size_is in
      let prefix : length encrypted ≡ length bytes - h = omega (arith, size) in
      none_encrypted encrypted (λ shape. other (omega (arith, size), subst Shape prefix shape))

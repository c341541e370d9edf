-- Octets of one entry are of no other.
use Rattle.std.proofs.Common.{◌≡◌, ℕ, ℤ, zero, suc, ◌<◌, ◌^◌, List, [], ◌∷◌, ◌++◌, refl, sym, ap, ◌∙◌, append_assoc, arith}
use Rattle.std.specs.Int.{cast_signed, cast_unsigned, from_be_bytes, to_be_bytes, w32, w64}
use Rattle.std.specs.Int.RustNames.{FitsSigned}
use Rattle.std.specs.List.{AllByRecursion, flat_map}
use Rattle.std.specs.Str.{IsAscii}
use Rattle.std.proofs.lemmas.Nat.{from_be_bytes-to_be_bytes_4, from_be_bytes-to_be_bytes_8}
use Rattle.std.proofs.Math.Facts.{Fits-lt-pow, Fits-of_z, to_z-of_z}
use Rattle.krb_der_core.specs.TlvLaws.{same_conses, same_prefixes}
use Rattle.krb_accept_rules.specs.declared.cache.Entry.{Entry}
use Rattle.krb_accept.specs.Entries.{IsEntry, entry_octets, text_octets, texts_octets}

heads : {A : Type 0} (x y : A) (xs ys : List A) → x ∷ xs ≡ y ∷ ys → x ≡ y
heads x y xs ys e = cc

tails : {A : Type 0} (x y : A) (xs ys : List A) → x ∷ xs ≡ y ∷ ys → xs ≡ ys
tails x y xs ys e = cc

-- a text before its end is one text
text_apart : (a b x y : List ℕ) → IsAscii a → IsAscii b → a ++ 255 ∷ x ≡ b ++ 255 ∷ y → (a ≡ b) × (x ≡ y)
text_apart [] [] x y ha hb e = (refl, tails 255 255 x y e)
text_apart [] (m ∷ b) x y ha hb e = absurd (let h : m < 128 = hb zero in let k = heads 255 m x (b ++ 255 ∷ y) e in omega arith)
text_apart (n ∷ a) [] x y ha hb e = absurd (let h : n < 128 = ha zero in let k = heads n 255 (a ++ 255 ∷ x) y e in omega arith)
text_apart (n ∷ a) (m ∷ b) x y ha hb e =
    let r = text_apart a b x y (λ i. ha (suc i)) (λ i. hb (suc i)) (tails n m (a ++ 255 ∷ x) (b ++ 255 ∷ y) e) in
    (same_conses n m a b (heads n m (a ++ 255 ∷ x) (b ++ 255 ∷ y) e) r.0, r.1)

-- what stands behind a text that has an end
split : (a x : List ℕ) → text_octets a ++ x ≡ a ++ 255 ∷ x
split a x = append_assoc a (255 ∷ []) x

not_end : (b x y : List ℕ) → IsAscii b → 254 ∷ x ≡ b ++ 255 ∷ y → ⊥
not_end [] x y h e = let k = heads 254 255 x y e in omega arith
not_end (m ∷ b) x y h e = let l : m < 128 = h zero in let k = heads 254 m x (b ++ 255 ∷ y) e in omega arith

-- texts before the end of their list
front : (a : List ℕ) (us : List (List ℕ)) (x : List ℕ) → flat_map text_octets (a ∷ us) ++ 254 ∷ x ≡ a ++ 255 ∷ (flat_map text_octets us ++ 254 ∷ x)
front a us x = append_assoc (text_octets a) (flat_map text_octets us) (254 ∷ x) ∙ split a (flat_map text_octets us ++ 254 ∷ x)

texts_apart : (us ws : List (List ℕ)) (x y : List ℕ) → AllByRecursion IsAscii us → AllByRecursion IsAscii ws
    → flat_map text_octets us ++ 254 ∷ x ≡ flat_map text_octets ws ++ 254 ∷ y → (us ≡ ws) × (x ≡ y)
texts_apart [] [] x y ha hb e = (refl, tails 254 254 x y e)
texts_apart [] (b ∷ ws) x y ha (h, hb) e = absurd (not_end b x (flat_map text_octets ws ++ 254 ∷ y) h (e ∙ front b ws y))
texts_apart (a ∷ us) [] x y (h, ha) hb e = absurd (not_end a y (flat_map text_octets us ++ 254 ∷ x) h (sym e ∙ front a us x))
texts_apart (a ∷ us) (b ∷ ws) x y (h, ha) (k, hb) e =
    let r = text_apart a b (flat_map text_octets us ++ 254 ∷ x) (flat_map text_octets ws ++ 254 ∷ y) h k (sym (front a us x) ∙ e ∙ front b ws y) in
    let s = texts_apart us ws x y ha hb r.1 in
    (same_conses a b us ws r.0 s.0, s.1)

-- the same, before whatever follows
realm_apart : (a b x y : List ℕ) → IsAscii a → IsAscii b → text_octets a ++ x ≡ text_octets b ++ y → (a ≡ b) × (x ≡ y)
realm_apart a b x y ha hb e = text_apart a b x y ha hb (sym (split a x) ∙ e ∙ split b y)

list_split : (us : List (List ℕ)) (x : List ℕ) → texts_octets us ++ x ≡ flat_map text_octets us ++ 254 ∷ x
list_split us x = append_assoc (flat_map text_octets us) (254 ∷ []) x

name_apart : (us ws : List (List ℕ)) (x y : List ℕ) → AllByRecursion IsAscii us → AllByRecursion IsAscii ws → texts_octets us ++ x ≡ texts_octets ws ++ y → (us ≡ ws) × (x ≡ y)
name_apart us ws x y ha hb e = texts_apart us ws x y ha hb (sym (list_split us x) ∙ e ∙ list_split ws y)

-- ---- the times

seconds_apart : (a b : ℤ) → FitsSigned w64 a → FitsSigned w64 b → cast_unsigned w64 a < 2 ^ 64 → cast_unsigned w64 b < 2 ^ 64
    → to_be_bytes w64 (cast_unsigned w64 a) ≡ to_be_bytes w64 (cast_unsigned w64 b) → a ≡ b
seconds_apart a b fa fb la lb e =
    let n : cast_unsigned w64 a ≡ cast_unsigned w64 b =
    sym (from_be_bytes-to_be_bytes_8 (cast_unsigned w64 a) la) ∙ ap (from_be_bytes w64) e ∙ from_be_bytes-to_be_bytes_8 (cast_unsigned w64 b) lb in
    sym (to_z-of_z fa) ∙ ap (cast_signed w64) n ∙ to_z-of_z fb

microseconds_apart : (a b : ℕ) → a < 2 ^ 32 → b < 2 ^ 32 → to_be_bytes w32 a ≡ to_be_bytes w32 b → a ≡ b
microseconds_apart a b la lb e = sym (from_be_bytes-to_be_bytes_4 a la) ∙ ap (from_be_bytes w32) e ∙ from_be_bytes-to_be_bytes_4 b lb

-- ---- all of it

of_parts : List ℕ → List (List ℕ) → List ℕ → List (List ℕ) → ℤ → ℕ → Entry
of_parts server_realm server client_realm client seconds microseconds = record {
  server_realm = server_realm;
  server = server;
  client_realm = client_realm;
  client = client;
  seconds = seconds;
  microseconds = microseconds;
}

same : (e f : Entry) → e.server_realm ≡ f.server_realm → e.server ≡ f.server → e.client_realm ≡ f.client_realm → e.client ≡ f.client → e.seconds ≡ f.seconds
    → e.microseconds ≡ f.microseconds → e ≡ f
unfolding of_parts
same e f p q r s t u =
    ap (λ (x : List ℕ). of_parts x e.server e.client_realm e.client e.seconds e.microseconds) p
    ∙ ap (λ (x : List (List ℕ)). of_parts f.server_realm x e.client_realm e.client e.seconds e.microseconds) q
    ∙ ap (λ (x : List ℕ). of_parts f.server_realm f.server x e.client e.seconds e.microseconds) r
    ∙ ap (λ (x : List (List ℕ)). of_parts f.server_realm f.server f.client_realm x e.seconds e.microseconds) s
    ∙ ap (λ (x : ℤ). of_parts f.server_realm f.server f.client_realm f.client x e.microseconds) t
    ∙ ap (λ (x : ℕ). of_parts f.server_realm f.server f.client_realm f.client f.seconds x) u

-- what stands behind each part
abbrev behind_list : Entry → List ℕ
behind_list e = text_octets e.client_realm ++ texts_octets e.client

abbrev behind_realm : Entry → List ℕ
behind_realm e = texts_octets e.server ++ behind_list e

abbrev behind_time : Entry → List ℕ
behind_time e = text_octets e.server_realm ++ behind_realm e

abbrev micros : Entry → List ℕ
micros e = to_be_bytes w32 e.microseconds ++ behind_time e

nested : (a b c d e f : List ℕ) → a ++ b ++ c ++ d ++ e ++ f ≡ a ++ (b ++ (c ++ (d ++ (e ++ f))))
nested a b c d e f =
    append_assoc (a ++ b ++ c ++ d) e f ∙ append_assoc (a ++ b ++ c) d (e ++ f) ∙ append_assoc (a ++ b) c (d ++ (e ++ f)) ∙ append_assoc a b (c ++ (d ++ (e ++ f)))

parts : (e : Entry) → entry_octets e ≡ to_be_bytes w64 (cast_unsigned w64 e.seconds) ++ micros e
parts e =
    nested (to_be_bytes w64 (cast_unsigned w64 e.seconds)) (to_be_bytes w32 e.microseconds) (text_octets e.server_realm) (texts_octets e.server) (text_octets e.client_realm)
    (texts_octets e.client)

pub apart : (e f : Entry) → IsEntry e → IsEntry f → entry_octets e ≡ entry_octets f → e ≡ f
apart e f he hf q =
    let s = same_prefixes (to_be_bytes w64 (cast_unsigned w64 e.seconds)) (to_be_bytes w64 (cast_unsigned w64 f.seconds)) (micros e) (micros f) refl (sym (parts e) ∙ q ∙ parts f) in
    let m = same_prefixes (to_be_bytes w32 e.microseconds) (to_be_bytes w32 f.microseconds) (behind_time e) (behind_time f) refl s.1 in
    let r = realm_apart e.server_realm f.server_realm (behind_realm e) (behind_realm f) he.server_realm hf.server_realm m.1 in
    let n = name_apart e.server f.server (behind_list e) (behind_list f) he.server hf.server r.1 in
    let c = realm_apart e.client_realm f.client_realm (texts_octets e.client) (texts_octets f.client) he.client_realm hf.client_realm n.1 in
    let l = texts_apart e.client f.client [] [] he.client hf.client c.1 in
    same e f r.0 n.0 c.0 l.0 (seconds_apart e.seconds f.seconds he.seconds hf.seconds (Fits-lt-pow (Fits-of_z he.seconds)) (Fits-lt-pow (Fits-of_z hf.seconds)) s.0)
    (microseconds_apart e.microseconds f.microseconds he.microseconds hf.microseconds m.0)

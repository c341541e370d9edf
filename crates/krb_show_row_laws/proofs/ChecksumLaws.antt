-- The checksum of the GSS-API in an authenticator tells its octets.
use Rattle.std.proofs.Common.{◌≡◌, ℕ, zero, suc, ◌<◌, ◌≤◌, ◌+◌, ◌*◌, ◌%◌, nat_eq, true, inl, inr, refl, sym, ap, subst, ◌∙◌, pos, List, [], ◌∷◌, ◌++◌, length, take, drop, codes, None, Some, length-drop, arith}
use Rattle.std.proofs.lemmas.List.{take-append-drop, drop-drop, get_or-drop}
use Rattle.std.specs.Prelude.{slice_index}
use Rattle.byteorder.specs.Endian.{little_from, little_number}
use Rattle.krb_der_core.specs.BitString.{Bits, IsBits}
use Rattle.krb_der_core.specs.Encoding.{IsOctets}
use Rattle.krb_registry.specs.declared.kind.Kind.TheVariants.{GssFlag}
use Rattle.krb_show.specs.Leaves.{octets_of}
use Rattle.krb_show.specs.Pages.{◌then◌, struct_of}
use Rattle.krb_show_text.specs.Text.{page_lines}
use Rattle.krb_show.specs.Tokens.{Label, Token, of_kind, plain}
use Rattle.krb_show_row_laws.specs.Telling.{is_name}
use Rattle.krb_show_row_laws.specs.Blocks.{Follow, Adds, Blocks, HasHead, Heads, Tells, TellsValues, IsStruct, IsLeaf, is_apart}
use Rattle.krb_show_row_laws.proofs.FieldLaws.{◌and◌, ◌and_so◌, one_head, tells_so, tells_optional, one_among, more_among}
use Rattle.krb_show_row_laws.proofs.StructLaws.{blocks_wider, struct_heads, tells_struct}
use Rattle.krb_show_row_laws.proofs.LeafLaws.{tells_numbers, tells_octets, tells_flags}
use Rattle.krb_show_row_laws.proofs.EitherLaws.{IsEither, head_so}
use Rattle.krb_show_row_laws.proofs.FirstLaws.{struct_no_leaf}
use Rattle.krb_show_row_laws.proofs.BlockLaws.{head_blocks}
use Rattle.krb_show_messages.specs.GssChecksum.{delegates, dlgth, IsDelegation, IsGssChecksum, flag_bits, context_of, exts_of, delegation_of, rest_of, gss_checksum_of}

-- ---- numbers of octets, the lowest first, tell them

pub little_shift : (i n x : ℕ) (xs : List ℕ) → little_from (suc i) n (x ∷ xs) ≡ little_from i n xs
little_shift i zero x xs = refl
little_shift i (suc n) x xs = ap (λ k. slice_index xs i + 256 * k) (little_shift (suc i) n x xs)

first_of_two : (x y m n : ℕ) → x < 256 → y < 256 → x + 256 * m ≡ y + 256 * n → (x ≡ y) × (m ≡ n)
first_of_two x y m n h k e = (omega (arith, e), omega (arith, e))

pub one_little : (n : ℕ) (xs ys : List ℕ) → IsOctets xs → IsOctets ys → n ≤ length xs → n ≤ length ys → little_number n xs ≡ little_number n ys
    → take n xs ≡ take n ys
one_little zero xs ys h k p q e = refl
one_little (suc n) [] ys h k p q e = absurd (omega (arith, p))
one_little (suc n) (x ∷ xs) [] h k p q e = absurd (omega (arith, q))
one_little (suc n) (x ∷ xs) (y ∷ ys) h k p q e =
    let parts = first_of_two x y (little_from 1 n (x ∷ xs)) (little_from 1 n (y ∷ ys)) (h 0) (k 0) e in
    let rest = one_little n xs ys (λ i. h (suc i)) (λ i. k (suc i)) (omega (arith, p)) (omega (arith, q))
    (sym (little_shift 0 n x xs) ∙ parts.1 ∙ little_shift 0 n y ys) in
    ap (λ z. z ∷ take n xs) parts.0 ∙ ap (λ (l : List ℕ). y ∷ l) rest

-- ---- lists by their parts

pub by_parts : (n : ℕ) (xs ys : List ℕ) → take n xs ≡ take n ys → drop n xs ≡ drop n ys → xs ≡ ys
by_parts n xs ys e f =
    sym (take-append-drop n xs) ∙ ap (λ (l : List ℕ). l ++ drop n xs) e ∙ ap (λ (l : List ℕ). take n ys ++ l) f ∙ take-append-drop n ys

pub dropped_octets : (n : ℕ) (xs : List ℕ) → IsOctets xs → IsOctets (drop n xs)
dropped_octets n xs h i = subst (λ k. k < 256) (sym (get_or-drop n xs i 0)) (h (n + i))

pub taken_octets : (n : ℕ) (xs : List ℕ) → IsOctets xs → IsOctets (take n xs)
taken_octets zero xs h zero = omega arith
taken_octets zero xs h (suc i) = omega arith
taken_octets (suc n) [] h zero = omega arith
taken_octets (suc n) [] h (suc i) = omega arith
taken_octets (suc n) (x ∷ xs) h zero = h 0
taken_octets (suc n) (x ∷ xs) h (suc i) = taken_octets n xs (λ j. h (suc j)) i

-- ---- the first 24 octets

four : {a b c d e f g h : ℕ} → a ≡ e → b ≡ f → c ≡ g → d ≡ h → a + 256 * (b + 256 * (c + 256 * (d + 256 * 0))) ≡ e + 256 * (f + 256 * (g + 256 * (h + 256 * 0)))
four p q r s = λ i. p i + 256 * (q i + 256 * (r i + 256 * (s i + 256 * 0)))

abbrev pub flag_octets : List ℕ → List ℕ
flag_octets xs = slice_index xs 23 ∷ slice_index xs 22 ∷ slice_index xs 21 ∷ slice_index xs 20 ∷ []

flag_place : (xs ys : List ℕ) → flag_bits xs ≡ flag_bits ys → (i : ℕ) → slice_index (flag_octets xs) i ≡ slice_index (flag_octets ys) i
flag_place xs ys e i = ap (λ (b : Bits). slice_index b.octets i) e

same_flags : (xs ys : List ℕ) → IsOctets xs → IsOctets ys → 24 ≤ length xs → 24 ≤ length ys → flag_bits xs ≡ flag_bits ys
    → take 4 (drop 20 xs) ≡ take 4 (drop 20 ys)
same_flags xs ys h k p q e =
    let place = λ (i : ℕ) (f : slice_index xs (20 + i) ≡ slice_index ys (20 + i)). get_or-drop 20 xs i 0 ∙ f ∙ sym (get_or-drop 20 ys i 0) in
    one_little 4 (drop 20 xs) (drop 20 ys) (dropped_octets 20 xs h) (dropped_octets 20 ys k) (omega (arith, length-drop 20 xs))
    (omega (arith, length-drop 20 ys))
    (four (place 0 (flag_place xs ys e 3)) (place 1 (flag_place xs ys e 2)) (place 2 (flag_place xs ys e 1)) (place 3 (flag_place xs ys e 0)))

same_delegates : (xs ys : List ℕ) → flag_bits xs ≡ flag_bits ys → delegates xs ≡ delegates ys
unfolding delegates
same_delegates xs ys e = ap (λ n. nat_eq (n % 2) 1) (flag_place xs ys e 3)

by_first : (xs ys : List ℕ) → IsOctets xs → IsOctets ys → IsGssChecksum xs → IsGssChecksum ys → take 16 (drop 4 xs) ≡ take 16 (drop 4 ys)
    → flag_bits xs ≡ flag_bits ys → drop 24 xs ≡ drop 24 ys → xs ≡ ys
by_first xs ys h k g c bindings flags rest =
    let at_20 = by_parts 4 (drop 20 xs) (drop 20 ys) (same_flags xs ys h k g.long c.long flags) (drop-drop 4 20 xs ∙ rest ∙ sym (drop-drop 4 20 ys)) in
    let at_4 = by_parts 16 (drop 4 xs) (drop 4 ys) bindings (drop-drop 16 4 xs ∙ at_20 ∙ sym (drop-drop 16 4 ys)) in
    by_parts 4 xs ys (one_little 4 xs ys h k (omega (arith, g.long)) (omega (arith, c.long)) (g.lgth ∙ sym c.lgth)) at_4

-- ---- what stands behind Flags

tells_exts : (os ps : List ℕ) → IsOctets os → IsOctets ps
    → Tells (λ names. codes "Exts" ∷ names) (λ names. is_apart (codes "Exts") names) (Unit {0}) (os ≡ ps) (exts_of os) (exts_of ps)
tells_exts [] [] h k = tells_so (λ u. u) (λ e. refl) (tells_optional tells_octets (plain (codes "Exts")) None None refl tt tt)
tells_exts [] (p ∷ ps) h k = tells_so (λ u. u) (λ e. absurd (cc)) (tells_optional tells_octets (plain (codes "Exts")) None (Some (p ∷ ps)) refl tt k)
tells_exts (o ∷ os) [] h k = tells_so (λ u. u) (λ e. absurd (cc)) (tells_optional tells_octets (plain (codes "Exts")) (Some (o ∷ os)) None refl h tt)
tells_exts (o ∷ os) (p ∷ ps) h k = tells_so (λ u. u) (λ e. cc) (tells_optional tells_octets (plain (codes "Exts")) (Some (o ∷ os)) (Some (p ∷ ps)) refl h k)

by_delegation : (xs ys : List ℕ) → IsOctets xs → IsOctets ys → IsDelegation xs → IsDelegation ys → dlgth xs ≡ dlgth ys
    → take (dlgth xs) (drop 28 xs) ≡ take (dlgth ys) (drop 28 ys) → drop (28 + dlgth xs) xs ≡ drop (28 + dlgth ys) ys → drop 24 xs ≡ drop 24 ys
unfolding dlgth
by_delegation xs ys h k g c same deleg exts =
    let taken : take (dlgth xs) (drop 28 xs) ≡ take (dlgth xs) (drop 28 ys) = deleg ∙ ap (λ n. take n (drop 28 ys)) (sym same) in
    let left : drop (dlgth xs) (drop 28 xs) ≡ drop (dlgth xs) (drop 28 ys) =
    drop-drop (dlgth xs) 28 xs ∙ exts ∙ sym (drop-drop (dlgth ys) 28 ys) ∙ ap (λ n. drop n (drop 28 ys)) (sym same) in
    let at_28 = by_parts (dlgth xs) (drop 28 xs) (drop 28 ys) taken left in
    let at_26 = by_parts 2 (drop 26 xs) (drop 26 ys) (one_little 2 (drop 26 xs) (drop 26 ys) (dropped_octets 26 xs h) (dropped_octets 26 ys k)
    (omega (arith, length-drop 26 xs, g.long)) (omega (arith, length-drop 26 ys, c.long)) same) (drop-drop 2 26 xs ∙ at_28 ∙ sym (drop-drop 2 26 ys)) in
    by_parts 2 (drop 24 xs) (drop 24 ys) (one_little 2 (drop 24 xs) (drop 24 ys) (dropped_octets 24 xs h) (dropped_octets 24 ys k)
    (omega (arith, length-drop 24 xs, g.long)) (omega (arith, length-drop 24 ys, c.long)) (g.option ∙ sym c.option))
    (drop-drop 2 24 xs ∙ at_26 ∙ sym (drop-drop 2 24 ys))

-- a way of showing what is delegated, under its name
abbrev pub as_deleg : (Label → List ℕ → List Token → List Token → Type 0) → List ℕ → List Token → List Token → Type 0
as_deleg shown = shown (plain (codes "Deleg"))

tells_delegation : {V : List ℕ → Type 0} {shown : Label → List ℕ → List Token → List Token → Type 0} → TellsValues IsOctets V shown → (xs ys : List ℕ)
    → IsOctets xs → IsOctets ys
    → IsDelegation xs → IsDelegation ys
    → Tells (λ names. codes "DlgOpt" ∷ []) (λ names. is_apart (codes "Exts") names) (Unit {0}) (drop 24 xs ≡ drop 24 ys)
    (delegation_of (as_deleg shown) xs) (delegation_of (as_deleg shown) ys)
tells_delegation {V} {shown} t xs ys h k g c =
    tells_so (λ u. u) (λ p. by_delegation xs ys h k g c (let e : pos (dlgth xs) ≡ pos (dlgth ys) = p.0.0.1 in cc) p.0.1 p.1)
    (tells_numbers.tells (plain (codes "DlgOpt")) (pos 1) (pos 1) refl tt tt
    and tells_numbers.tells (plain (codes "Dlgth")) (pos (dlgth xs)) (pos (dlgth ys)) refl tt tt
    and t.tells (plain (codes "Deleg")) (take (dlgth xs) (drop 28 xs)) (take (dlgth ys) (drop 28 ys)) refl
    (taken_octets (dlgth xs) (drop 28 xs) (dropped_octets 28 xs h)) (taken_octets (dlgth ys) (drop 28 ys) (dropped_octets 28 ys k))
    and tells_exts (drop (28 + dlgth xs) xs) (drop (28 + dlgth ys) ys) (dropped_octets (28 + dlgth xs) xs h) (dropped_octets (28 + dlgth ys) ys k))

-- the names that the first field behind Flags may have
abbrev pub behind_flags : List (List ℕ) → List (List ℕ)
behind_flags names = codes "DlgOpt" ∷ codes "Exts" ∷ names

rest_blocks : {V : List ℕ → Type 0} {shown : Label → List ℕ → List Token → List Token → Type 0} → TellsValues IsOctets V shown → (xs : List ℕ) → IsOctets xs
    → IsGssChecksum xs
    → Blocks behind_flags (rest_of (as_deleg shown) xs)
rest_blocks {V} {shown} t xs h g = record { block = block }
  where
    block : (old new : List Token) → rest_of (as_deleg shown) xs old new → Adds behind_flags old new
    block old new (inl (d, s)) =
        let is = g.delegated d in
        (blocks_wider {f = λ names. codes "DlgOpt" ∷ []} {g = behind_flags} (λ names d ls. one_among (codes "DlgOpt") (codes "Exts" ∷ names) d ls)
        (tells_delegation t xs xs h h is is).left).block old new s
    block old new (inr (d, s)) =
        (blocks_wider {f = λ names. codes "Exts" ∷ names} {g = behind_flags} (λ names d ls. more_among (codes "DlgOpt") (codes "Exts" ∷ names) d ls)
        (tells_exts (drop 24 xs) (drop 24 xs) (dropped_octets 24 xs h) (dropped_octets 24 xs h)).left).block old new s

tells_rest : {V : List ℕ → Type 0} {shown : Label → List ℕ → List Token → List Token → Type 0} → TellsValues IsOctets V shown → (xs ys : List ℕ) → IsOctets xs
    → IsOctets ys
    → IsGssChecksum xs → IsGssChecksum ys
    → Tells behind_flags (λ names. is_apart (codes "Exts") names) (flag_bits xs ≡ flag_bits ys) (drop 24 xs ≡ drop 24 ys) (rest_of (as_deleg shown) xs)
    (rest_of (as_deleg shown) ys)
tells_rest {V} {shown} t xs ys h k g c = record { left = rest_blocks t xs h g; right = rest_blocks t ys k c; tells = tells }
  where
    tells : (old before ts us : List Token) → rest_of (as_deleg shown) xs old (old ++ ts) → rest_of (as_deleg shown) ys before (before ++ us)
        → flag_bits xs ≡ flag_bits ys
        → (names : List (List ℕ)) (d : ℕ) (rest following : List (List ℕ)) → is_apart (codes "Exts") names ≡ true → Follow names d rest
        → Follow names d following
        → page_lines d ts ++ rest ≡ page_lines d us ++ following → (drop 24 xs ≡ drop 24 ys) × (rest ≡ following)
    tells old before ts us (inl (p, a)) (inl (q, b)) known names d rest following fit m n same =
        (tells_delegation t xs ys h k (g.delegated p) (c.delegated q)).tells old before ts us a b tt names d rest following fit m n same
    tells old before ts us (inl (p, a)) (inr (q, b)) known names d rest following fit m n same =
        let e = same_delegates xs ys known in absurd (cc (p, q, e))
    tells old before ts us (inr (p, a)) (inl (q, b)) known names d rest following fit m n same =
        let e = same_delegates xs ys known in absurd (cc (p, q, e))
    tells old before ts us (inr (p, a)) (inr (q, b)) known names d rest following fit m n same =
        (tells_exts (drop 24 xs) (drop 24 ys) (dropped_octets 24 xs h) (dropped_octets 24 ys k)).tells old before ts us a b tt names d rest following fit m n
        same

flag_octets_small : (xs : List ℕ) → IsOctets xs → IsOctets (flag_octets xs)
flag_octets_small xs h zero = h 23
flag_octets_small xs h (suc zero) = h 22
flag_octets_small xs h (suc (suc zero)) = h 21
flag_octets_small xs h (suc (suc (suc zero))) = h 20
flag_octets_small xs h (suc (suc (suc (suc i)))) = omega arith

are_bits : (xs : List ℕ) → IsOctets xs → IsBits (flag_bits xs)
are_bits xs h = record { octets = flag_octets_small xs h; few = omega arith; none = λ e. refl; zeros = omega arith }

tells_fields : {V : List ℕ → Type 0} {shown : Label → List ℕ → List Token → List Token → Type 0} → TellsValues IsOctets V shown → (xs ys : List ℕ) → IsOctets xs
    → IsOctets ys
    → IsGssChecksum xs → IsGssChecksum ys
    → Tells (λ names. codes "Lgth" ∷ []) (λ names. is_apart (codes "Exts") names) (Unit {0}) (xs ≡ ys)
    (context_of xs then rest_of (as_deleg shown) xs) (context_of ys then rest_of (as_deleg shown) ys)
tells_fields t xs ys h k g c =
    tells_so (λ u. u) (λ p. by_first xs ys h k g c p.0.0.1 p.0.1 p.1)
    (tells_numbers.tells (plain (codes "Lgth")) (pos 16) (pos 16) refl tt tt
    and tells_octets.tells (plain (codes "Bnd")) (take 16 (drop 4 xs)) (take 16 (drop 4 ys)) refl
    (taken_octets 16 (drop 4 xs) (dropped_octets 4 xs h)) (taken_octets 16 (drop 4 ys) (dropped_octets 4 ys k))
    and tells_flags.tells (of_kind (codes "Flags") GssFlag) (flag_bits xs) (flag_bits ys) refl (are_bits xs h) (are_bits ys k)
    and_so tells_so (λ p. p.1) (λ q. q) (tells_rest t xs ys h k g c))

checksum_heads : {V : List ℕ → Type 0} {shown : Label → List ℕ → List Token → List Token → Type 0} → TellsValues IsOctets V shown
    → (label : Label) (xs : List ℕ)
    → is_name label.text ≡ true → IsOctets xs → Heads label.text (IsEither IsStruct IsLeaf) (gss_checksum_of (as_deleg shown) label xs)
checksum_heads {V} {shown} t label xs name h = record { head = head_of }
  where
    head_of : (old new : List Token) → gss_checksum_of (as_deleg shown) label xs old new → HasHead label.text (IsEither IsStruct IsLeaf) old new
    head_of old new (inl (g, s)) = head_so (λ s x. inl x) ((struct_heads label (tells_fields t xs xs h h g g).left).head old new s)
    head_of old new (inr (n, s)) = head_so (λ s x. inr x) ((tells_octets.heads label xs name h).head old new s)

-- octets that are such a checksum are shown as its fields, and else as octets, and either tells them
pub tells_checksums : {V : List ℕ → Type 0} {shown : Label → List ℕ → List Token → List Token → Type 0} → TellsValues IsOctets V shown
    → TellsValues IsOctets (IsEither IsStruct IsLeaf) (gss_checksum_of (as_deleg shown))
tells_checksums {V} {shown} t = record {
  heads = λ label xs name h. checksum_heads t label xs name h;
  tells = λ label xs ys name h k. record {
    left = head_blocks label.text (IsEither IsStruct IsLeaf) (gss_checksum_of (as_deleg shown) label xs) name (checksum_heads t label xs name h);
    right = head_blocks label.text (IsEither IsStruct IsLeaf) (gss_checksum_of (as_deleg shown) label ys) name (checksum_heads t label ys name k);
    tells = tells label xs ys name h k;
  };
}
  where
    tells : (label : Label) (xs ys : List ℕ) → is_name label.text ≡ true → IsOctets xs → IsOctets ys → (old before ts us : List Token)
        → gss_checksum_of (as_deleg shown) label xs old (old ++ ts) → gss_checksum_of (as_deleg shown) label ys before (before ++ us) → Unit {0}
        → (names : List (List ℕ)) (d : ℕ) (rest following : List (List ℕ)) → true ≡ true → Follow names d rest → Follow names d following
        → page_lines d ts ++ rest ≡ page_lines d us ++ following → (xs ≡ ys) × (rest ≡ following)
    tells label xs ys name h k old before ts us (inl (g, a)) (inl (c, b)) known names d rest following fit m n same =
        (tells_struct label name (tells_fields t xs ys h k g c) refl).tells old before ts us a b known names d rest following fit m n same
    tells label xs ys name h k old before ts us (inl (g, a)) (inr (c, b)) known names d rest following fit m n same =
        let both = one_head label.text IsStruct IsLeaf (struct_of label (context_of xs then rest_of (as_deleg shown) xs)) (octets_of label ys)
        (struct_heads label (tells_fields t xs xs h h g g).left) (tells_octets.heads label ys name k) old before ts us a b d rest following same in
        absurd (struct_no_leaf both.0 both.1 both.2)
    tells label xs ys name h k old before ts us (inr (g, a)) (inl (c, b)) known names d rest following fit m n same =
        let both = one_head label.text IsLeaf IsStruct (octets_of label xs) (struct_of label (context_of ys then rest_of (as_deleg shown) ys))
        (tells_octets.heads label xs name h) (struct_heads label (tells_fields t ys ys k k c c).left) old before ts us a b d rest following same in
        absurd (struct_no_leaf both.0 both.2 both.1)
    tells label xs ys name h k old before ts us (inr (g, a)) (inr (c, b)) known names d rest following fit m n same =
        (tells_octets.tells label xs ys name h k).tells old before ts us a b known names d rest following fit m n same

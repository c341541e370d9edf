-- Leaves tell what they show.
use Rattle.std.proofs.Common.{◌≡◌, ◌⊎◌, ℕ, ◌<◌, ◌^◌, Bool, true, inl, inr, refl, sym, ap, subst, ◌∙◌, ℤ, pos, FitsSigned, List, [], ◌∷◌, ◌++◌, arith}
use Rattle.std.specs.Int.{w64}
use Rattle.std.specs.Str.{IsAscii, IsUtf8}
use Rattle.std.specs.Fmt.{decimal, signed_decimal}
use Rattle.std.proofs.lemmas.Fmt.{decimal_injective, signed_decimal_injective}
use Rattle.krb_der_core.specs.Encoding.{IsOctets}
use Rattle.krb_der_core.specs.BitString.{Bits, IsBits}
use Rattle.krb_der_core.specs.GeneralizedTime.{IsRealTime}
use Rattle.krb_der_core.specs.Integer.{shortest}
use Rattle.krb_der_core.specs.IntegerLaws.{integer_one_content}
use Rattle.krb_show_text.specs.declared.escape.Style.TheVariants as style
use Rattle.krb_show.specs.declared.token.Form.TheVariants as form
use Rattle.krb_show.specs.NameTexts.{name_text}
use Rattle.krb_show.specs.Leaves.{name_of, number_of, unsigned_of, flags_of, identifier_of, truth_of, time_of, text_of, word_of, octets_of, secret_octets_of, cipher_of, time_word, flags_word, truth_word}
use Rattle.krb_show_text.specs.Text.{escaped, quoted, line, octets_text, page_lines, value_text}
use Rattle.krb_show.specs.Tokens.{Label, Token, adds, leaf, name_token, noted, number_token}
use Rattle.krb_show_row_laws.specs.Telling.{all_of, Stops, is_name_octet, is_name, is_word_octet, IsBeside, IsNameBeside}
use Rattle.krb_show_row_laws.proofs.SplitLaws.{tail}
use Rattle.krb_show_row_laws.proofs.WordLaws.{word_itself, signed_word, decimal_word, one_word, one_octets, word_or_octets, name_beside}
use Rattle.krb_show_row_laws.proofs.NameLaws.{note_beside, flags_beside, identifier_beside}
use Rattle.krb_show_row_laws.proofs.Utf8Laws.{utf8_octets}
use Rattle.krb_show_row_laws.proofs.ValueLaws.{one_text, shortest_octets, truth_is_word, one_truth, one_time, time_is_word, flags_are_word, one_flags}
use Rattle.krb_show_row_laws.specs.Blocks.{depth_behind, Follow, HasHead, Heads, Tells, TellsValues, IsLeaf}
use Rattle.krb_show_row_laws.proofs.BlockLaws.{one_value_text, head_blocks}
use Rattle.krb_show_row_laws.proofs.FieldLaws.{tells_so, same_added}

-- ---- one line

-- one line under this name, and what stands behind the name
pub record OneLine (n : List ℕ) (V : List ℕ → Type 0) (old new : List Token) : Type 0 where
  pub token : Token
  pub added : new ≡ old ++ token ∷ []
  pub named : token.label.text ≡ n
  pub value : V (value_text token.form token)
  pub lines : (d : ℕ) → page_lines d (token ∷ []) ≡ line d token ∷ []
  pub level : (d : ℕ) → depth_behind d (token ∷ []) ≡ d

pub record Lines (n : List ℕ) (V : List ℕ → Type 0) (shows : List Token → List Token → Type 0) : Type 0 where
  pub line_of : (old new : List Token) → shows old new → OneLine n V old new

leaf_stops : (text : List ℕ) → IsLeaf text → Stops is_name_octet text
leaf_stops text (rest, e) = subst (Stops is_name_octet) (sym e) refl

pub leaf_heads : (n : List ℕ) (V : List ℕ → Type 0) (shows : List Token → List Token → Type 0) → ((s : List ℕ) → V s → IsLeaf s) → Lines n V shows
    → Heads n IsLeaf shows
leaf_heads n V shows leafs p = record { head = head }
  where
    head : (old new : List Token) → shows old new → HasHead n IsLeaf old new
    head old new h =
        let k = p.line_of old new h in
        let is = leafs (value_text k.token.form k.token) k.value in
        record {
          token = k.token;
          rest = [];
          added = k.added;
          named = k.named;
          ends = leaf_stops (value_text k.token.form k.token) is;
          value = is;
          lines = λ d. ([], k.lines d);
          level = k.level;
        }

pub tells_leaf : {P : Type 0} (n : List ℕ) (V W : List ℕ → Type 0) (shows other : List Token → List Token → Type 0) → is_name n ≡ true
    → ((s : List ℕ) → V s → IsLeaf s) → ((s : List ℕ) → W s → IsLeaf s) → Lines n V shows → Lines n W other → ((s : List ℕ) → V s → W s → P)
    → Tells (λ names. n ∷ []) (λ names. true) (Unit {0}) P shows other
tells_leaf {P} n V W shows other name leafs leaves p q both = record {
  left = head_blocks n IsLeaf shows name (leaf_heads n V shows leafs p);
  right = head_blocks n IsLeaf other name (leaf_heads n W other leaves q);
  tells = tells;
}
  where
    tells : (old before ts us : List Token) → shows old (old ++ ts) → other before (before ++ us) → Unit {0}
        → (names : List (List ℕ)) (d : ℕ) (rest following : List (List ℕ))
        → true ≡ true → Follow names d rest → Follow names d following → page_lines d ts ++ rest ≡ page_lines d us ++ following → P × (rest ≡ following)
    tells old before ts us h k known names d rest following fit m o same =
        let t = p.line_of old (old ++ ts) h in
        let u = q.line_of before (before ++ us) k in
        let left = ap (page_lines d) (same_added old ts (t.token ∷ []) t.added) ∙ t.lines d in
        let right = ap (page_lines d) (same_added before us (u.token ∷ []) u.added) ∙ u.lines d in
        let lines : line d t.token ∷ rest ≡ line d u.token ∷ following =
        ap (λ (ls : List (List ℕ)). ls ++ rest) (sym left) ∙ same ∙ ap (λ (ls : List (List ℕ)). ls ++ following) right in
        let first : line d t.token ≡ line d u.token = cc in
        let texts = one_value_text d t.token u.token (t.named ∙ sym u.named) first in
        (both (value_text t.token.form t.token) t.value (subst W (sym texts) u.value), tail _ _ _ _ lines)

-- a leaf whose one text is this, for each value
pub leaf_values : {A : Type 0} (is_value : A → Type 0) (V : A → List ℕ → Type 0) (shows : Label → A → List Token → List Token → Type 0)
    → ((v : A) (s : List ℕ) → V v s → IsLeaf s) → ((label : Label) (v : A) → is_value v → Lines label.text (V v) (shows label v))
    → ((v w : A) (s : List ℕ) → is_value v → is_value w → V v s → V w s → v ≡ w) → TellsValues is_value IsLeaf shows
leaf_values is_value V shows leafs lines one = record {
  heads = λ label v name h. leaf_heads label.text (V v) (shows label v) (leafs v) (lines label v h);
  tells = λ label v w name h k. tells_leaf label.text (V v) (V w) (shows label v) (shows label w) name (leafs v) (leafs w) (lines label v h) (lines label w k)
      (λ s a b. one v w s h k a b);
}

-- ---- words and what stands beside them

-- a word, and this beside it
abbrev pub IsWord : (List ℕ → Type 0) → List ℕ → List ℕ → Type 0
IsWord Beside word s = (r : List ℕ) × Beside r × (s ≡ 58 ∷ 32 ∷ (word ++ r))

word_leaf : (Beside : List ℕ → Type 0) (word s : List ℕ) → IsWord Beside word s → IsLeaf s
word_leaf Beside word s (r, b, e) = (word ++ r, e)

one_word_leaf : (v w s : List ℕ) → all_of is_word_octet v ≡ true → all_of is_word_octet w ≡ true → IsWord IsBeside v s → IsWord IsBeside w s → v ≡ w
one_word_leaf v w s h k (r, f, e) (q, g, i) = (one_word v w r q h k f g (tail _ _ _ _ (tail _ _ _ _ (sym e ∙ i)))).0

word_text_is : (word note : List ℕ) → all_of is_word_octet word ≡ true
    → 58 ∷ 32 ∷ (escaped style.Plain word ++ escaped style.Plain note) ≡ 58 ∷ 32 ∷ (word ++ escaped style.Plain note)
word_text_is word note h = ap (λ (l : List ℕ). 58 ∷ 32 ∷ (l ++ escaped style.Plain note)) (word_itself word h)

-- ---- numbers

abbrev pub IsNumberText : ℤ → List ℕ → Type 0
IsNumberText z s = (FitsSigned w64 z × IsWord IsNameBeside (signed_decimal z) s) ⊎ ((FitsSigned w64 z → ⊥) × (s ≡ 58 ∷ 32 ∷ octets_text (shortest z)))

pub number_leaf : (z : ℤ) (s : List ℕ) → IsNumberText z s → IsLeaf s
number_leaf z s (inl h) = word_leaf IsNameBeside (signed_decimal z) s h.1
number_leaf z s (inr h) = (octets_text (shortest z), h.1)

pub number_line : (label : Label) (z : ℤ) → Unit {0} → Lines label.text (IsNumberText z) (number_of label z)
number_line label z unit = record { line_of = line_of }
  where
    line_of : (old new : List Token) → number_of label z old new → OneLine label.text (IsNumberText z) old new
    line_of old new (inl (note, fits, h, e)) = record {
      token = number_token label z (signed_decimal z) note;
      added = e;
      named = refl;
      value = inl (fits, (escaped style.Plain note, note_beside label.kind z note h, word_text_is (signed_decimal z) note (signed_word z)));
      lines = λ d. refl;
      level = λ d. refl;
    }
    line_of old new (inr (none, e)) = record {
      token = leaf form.Octets label (shortest z);
      added = e;
      named = refl;
      value = inr (none, refl);
      lines = λ d. refl;
      level = λ d. refl;
    }

pub one_number : (y z : ℤ) (s : List ℕ) → Unit {0} → Unit {0} → IsNumberText y s → IsNumberText z s → y ≡ z
one_number y z s u v (inl (f, (r, b, e))) (inl (g, (q, c, i))) =
    let words = one_word (signed_decimal y) (signed_decimal z) r q (signed_word y) (signed_word z) (name_beside r b) (name_beside q c)
    (tail _ _ _ _ (tail _ _ _ _ (sym e ∙ i))) in
    signed_decimal_injective y z f.sfits g.sfits words.0
one_number y z s u v (inl (f, (r, b, e))) (inr (g, i)) =
    absurd (word_or_octets (signed_decimal y) r (shortest z) (signed_word y) b (tail _ _ _ _ (tail _ _ _ _ (sym e ∙ i))))
one_number y z s u v (inr (f, e)) (inl (g, (q, c, i))) =
    absurd (word_or_octets (signed_decimal z) q (shortest y) (signed_word z) c (tail _ _ _ _ (tail _ _ _ _ (sym i ∙ e))))
one_number y z s u v (inr (f, e)) (inr (g, i)) =
    integer_one_content y z tt tt (one_octets (shortest y) (shortest z) (shortest_octets y) (shortest_octets z) (tail _ _ _ _ (tail _ _ _ _ (sym e ∙ i))))

-- a whole number tells itself, however large
pub tells_numbers : TellsValues (λ (z : ℤ). Unit {0}) IsLeaf number_of
tells_numbers = leaf_values (λ (z : ℤ). Unit {0}) IsNumberText number_of number_leaf number_line one_number

-- ---- words

-- tokens of a word alone
word_line : (label : Label) (word : List ℕ) → all_of is_word_octet word ≡ true → Lines label.text (IsWord IsBeside word) (word_of label word)
word_line label word h = record {
  line_of = λ old new e. record {
    token = leaf form.Word label word;
    added = e;
    named = refl;
    value = ([], tt, word_text_is word [] h);
    lines = λ d. refl;
    level = λ d. refl;
  };
}

-- and of the digits of a number, or a truth value
digits_line : (label : Label) (word : List ℕ) → all_of is_word_octet word ≡ true → Lines label.text (IsWord IsBeside word) (adds (leaf form.Number label word))
digits_line label word h = record {
  line_of = λ old new e. record {
    token = leaf form.Number label word;
    added = e;
    named = refl;
    value = ([], tt, word_text_is word [] h);
    lines = λ d. refl;
    level = λ d. refl;
  };
}

-- a time tells itself, to the second
pub tells_times : TellsValues IsRealTime IsLeaf time_of
tells_times = leaf_values IsRealTime (λ t. IsWord IsBeside (time_word t)) time_of (λ t s h. word_leaf IsBeside (time_word t) s h)
    (λ label t h. word_line label (time_word t) (time_is_word t h))
    (λ t u s h k a b. one_time t u h k (one_word_leaf (time_word t) (time_word u) s (time_is_word t h) (time_is_word u k) a b))

pub tells_truths : TellsValues (λ (b : Bool). Unit {0}) IsLeaf truth_of
tells_truths = leaf_values (λ (b : Bool). Unit {0}) (λ b. IsWord IsBeside (truth_word b)) truth_of (λ b s h. word_leaf IsBeside (truth_word b) s h)
    (λ label b h. digits_line label (truth_word b) (truth_is_word b))
    (λ b c s h k x y. one_truth b c (one_word_leaf (truth_word b) (truth_word c) s (truth_is_word b) (truth_is_word c) x y))

pub tells_unsigned : TellsValues (λ n. n < 2 ^ 64) IsLeaf unsigned_of
tells_unsigned = leaf_values (λ n. n < 2 ^ 64) (λ n. IsWord IsBeside (decimal n)) unsigned_of (λ n s h. word_leaf IsBeside (decimal n) s h)
    (λ label n h. digits_line label (decimal n) (decimal_word n))
    (λ m n s h k x y. decimal_injective m n h k (one_word_leaf (decimal m) (decimal n) s (decimal_word m) (decimal_word n) x y))

-- ---- flags and object identifiers

flags_line : (label : Label) (bits : Bits) → IsBits bits → Lines label.text (IsWord IsBeside (flags_word bits)) (flags_of label bits)
flags_line label bits h = record { line_of = line_of }
  where
    line_of : (old new : List Token) → flags_of label bits old new → OneLine label.text (IsWord IsBeside (flags_word bits)) old new
    line_of old new (note, k, e) = record {
      token = noted form.Flags label (flags_word bits) note;
      added = e;
      named = refl;
      value = (escaped style.Plain note, flags_beside label.kind bits.octets note k, word_text_is (flags_word bits) note (flags_are_word bits h));
      lines = λ d. refl;
      level = λ d. refl;
    }

-- flags tell their octets and how many bits are spare
pub tells_flags : TellsValues IsBits IsLeaf flags_of
tells_flags = leaf_values IsBits (λ bits. IsWord IsBeside (flags_word bits)) flags_of (λ bits s h. word_leaf IsBeside (flags_word bits) s h) flags_line
    (λ b c s h k x y. one_flags b c h k (one_word_leaf (flags_word b) (flags_word c) s (flags_are_word b h) (flags_are_word c k) x y))

identifier_line : (label : Label) (dotted : List ℕ) → all_of is_word_octet dotted ≡ true
    → Lines label.text (IsWord IsBeside dotted) (identifier_of label dotted)
identifier_line label dotted h = record { line_of = line_of }
  where
    line_of : (old new : List Token) → identifier_of label dotted old new → OneLine label.text (IsWord IsBeside dotted) old new
    line_of old new (note, k, e) = record {
      token = noted form.Identifier label dotted note;
      added = e;
      named = refl;
      value = (escaped style.Plain note, identifier_beside dotted note k, word_text_is dotted note h);
      lines = λ d. refl;
      level = λ d. refl;
    }

pub tells_identifiers : TellsValues (λ dotted. all_of is_word_octet dotted ≡ true) IsLeaf identifier_of
tells_identifiers = leaf_values (λ dotted. all_of is_word_octet dotted ≡ true) (IsWord IsBeside) identifier_of (word_leaf IsBeside) identifier_line
    (λ v w s h k a b. one_word_leaf v w s h k a b)

-- ---- octets and texts

abbrev pub IsOctetsText : List ℕ → List ℕ → Type 0
IsOctetsText xs s = s ≡ 58 ∷ 32 ∷ octets_text xs

abbrev pub IsQuotedText : List ℕ → List ℕ → Type 0
IsQuotedText xs s = s ≡ 58 ∷ 32 ∷ quoted style.Quoted xs

pub octets_line : (label : Label) (xs : List ℕ) → Lines label.text (IsOctetsText xs) (octets_of label xs)
octets_line label xs = record {
  line_of = λ old new e. record { token = leaf form.Octets label xs; added = e; named = refl; value = refl; lines = λ d. refl; level = λ d. refl };
}

pub name_line : (label : Label) (cs : List (List ℕ)) → Lines label.text (IsQuotedText (name_text cs)) (name_of label cs)
name_line label cs = record {
  line_of = λ old new e. record {
    token = name_token label (name_text cs) cs;
    added = e;
    named = refl;
    value = refl;
    lines = λ d. refl;
    level = λ d. refl;
  };
}

pub text_line : (label : Label) (xs : List ℕ) → Lines label.text (IsQuotedText xs) (text_of label xs)
text_line label xs = record {
  line_of = λ old new e. record { token = leaf form.Text label xs; added = e; named = refl; value = refl; lines = λ d. refl; level = λ d. refl };
}

pub tells_octets : TellsValues IsOctets IsLeaf octets_of
tells_octets = leaf_values IsOctets IsOctetsText octets_of (λ xs s e. (octets_text xs, e)) (λ label xs h. octets_line label xs)
    (λ xs ys s h k e f. one_octets xs ys h k (tail _ _ _ _ (tail _ _ _ _ (sym e ∙ f))))

-- those of keys, and those that are encrypted
pub secret_line : (label : Label) (xs : List ℕ) → Lines label.text (IsOctetsText xs) (secret_octets_of label xs)
secret_line label xs = record {
  line_of = λ old new e. record { token = leaf form.Secret label xs; added = e; named = refl; value = refl; lines = λ d. refl; level = λ d. refl };
}

cipher_line : (label : Label) (xs : List ℕ) → Lines label.text (IsOctetsText xs) (cipher_of label xs)
cipher_line label xs = record {
  line_of = λ old new e. record { token = leaf form.Cipher label xs; added = e; named = refl; value = refl; lines = λ d. refl; level = λ d. refl };
}

pub tells_secrets : TellsValues IsOctets IsLeaf secret_octets_of
tells_secrets = leaf_values IsOctets IsOctetsText secret_octets_of (λ xs s e. (octets_text xs, e)) (λ label xs h. secret_line label xs)
    (λ xs ys s h k e f. one_octets xs ys h k (tail _ _ _ _ (tail _ _ _ _ (sym e ∙ f))))

pub tells_ciphers : TellsValues IsOctets IsLeaf cipher_of
tells_ciphers = leaf_values IsOctets IsOctetsText cipher_of (λ xs s e. (octets_text xs, e)) (λ label xs h. cipher_line label xs)
    (λ xs ys s h k e f. one_octets xs ys h k (tail _ _ _ _ (tail _ _ _ _ (sym e ∙ f))))

pub tells_texts : TellsValues IsOctets IsLeaf text_of
tells_texts = leaf_values IsOctets IsQuotedText text_of (λ xs s e. (quoted style.Quoted xs, e)) (λ label xs h. text_line label xs)
    (λ xs ys s h k e f. one_text xs ys h k (tail _ _ _ _ (tail _ _ _ _ (sym e ∙ f))))

-- ---- other values that are shown so

-- values that are shown by another value, which tells them
pub tells_by : {A B : Type 0} {is_value : A → Type 0} {V : List ℕ → Type 0} {shows : Label → A → List Token → List Token → Type 0} (is_other : B → Type 0)
    (g : B → A)
    → ((w : B) → is_other w → is_value (g w)) → ((v w : B) → is_other v → is_other w → g v ≡ g w → v ≡ w) → TellsValues is_value V shows
    → TellsValues is_other V (λ label w. shows label (g w))
tells_by is_other g valid one t = record {
  heads = λ label w name h. t.heads label (g w) name (valid w h);
  tells = λ label v w name h k. tells_so (λ u. u) (λ e. one v w h k e) (t.tells label (g v) (g w) name (valid v h) (valid w k));
}

-- texts of ASCII (RFC 4120, 5.2.1), and those in UTF-8
ascii_octets : (xs : List ℕ) → IsAscii xs → IsOctets xs
ascii_octets xs h i = omega (arith, h i)

pub tells_ascii : TellsValues IsAscii IsLeaf text_of
tells_ascii = tells_by IsAscii (λ xs. xs) ascii_octets (λ v w h k e. e) tells_texts

-- names, whose texts these are
pub tells_names : (label : Label) (cs ds : List (List ℕ)) → is_name label.text ≡ true → IsAscii (name_text cs) → IsAscii (name_text ds)
    → Tells (λ names. label.text ∷ []) (λ names. true) (Unit {0}) (name_text cs ≡ name_text ds) (name_of label cs) (name_of label ds)
tells_names label cs ds name h k =
    tells_leaf label.text (IsQuotedText (name_text cs)) (IsQuotedText (name_text ds)) (name_of label cs) (name_of label ds) name
    (λ s e. (quoted style.Quoted (name_text cs), e)) (λ s e. (quoted style.Quoted (name_text ds), e)) (name_line label cs) (name_line label ds)
    (λ s e f. one_text (name_text cs) (name_text ds) (ascii_octets (name_text cs) h) (ascii_octets (name_text ds) k)
    (tail _ _ _ _ (tail _ _ _ _ (sym e ∙ f))))

-- numbers of 32 bits, which are whole numbers
pub tells_naturals : {is_value : ℕ → Type 0} → TellsValues is_value IsLeaf (λ label n. number_of label (pos n))
tells_naturals {is_value} = tells_by is_value pos (λ n h. tt) (λ m n h k e. cc) tells_numbers

-- values of which more is known
pub tells_within : {A : Type 0} {is_value : A → Type 0} {V : List ℕ → Type 0} {shows : Label → A → List Token → List Token → Type 0} (is_other : A → Type 0)
    → ((v : A) → is_other v → is_value v) → TellsValues is_value V shows → TellsValues is_other V shows
tells_within is_other valid t = record {
  heads = λ label v name h. t.heads label v name (valid v h);
  tells = λ label v w name h k. t.tells label v w name (valid v h) (valid w k);
}

pub tells_utf8 : TellsValues IsUtf8 IsLeaf text_of
tells_utf8 = tells_within IsUtf8 utf8_octets tells_texts

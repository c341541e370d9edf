-- What stands in front of lines that are known to begin so, and fields that one side has alone.
use Rattle.std.proofs.Common.{◌≡◌, ℕ, Bool, true, if◌then◌else◌, inl, inr, refl, sym, ap, subst, ◌∙◌, List, [], ◌∷◌, ◌++◌}
use Rattle.std.proofs.lemmas.List.{append-nil, append_assoc}
use Rattle.krb_show.specs.Pages.{◌then◌}
use Rattle.krb_show_text.specs.Text.{page_lines}
use Rattle.krb_show.specs.Tokens.{Token}
use Rattle.krb_show_row_laws.specs.Blocks.{Adds, Among, Blocks, Follow, HasHead, Tells, depth_behind}
use Rattle.krb_show_row_laws.specs.Firsts.{BeginsAs, Behind, First, Firsts, are_apart, names_of}
use Rattle.krb_show_row_laws.proofs.BlockLaws.{depth_append, lines_append}
use Rattle.krb_show_row_laws.proofs.FieldLaws.{nothing_added, same_added}
use Rattle.krb_show_row_laws.proofs.FirstLaws.{absent_never, follow_so}

pub blocks_so : {f : List (List ℕ) → List (List ℕ)} {a b : List Token → List Token → Type 0} → ((old new : List Token) → b old new → a old new) → Blocks f a
    → Blocks f b
blocks_so f h = record { block = λ old new s. h.block old new (f old new s) }

-- names may follow by which lines do not begin
pub blocks_among : {f g : List (List ℕ) → List (List ℕ)} {a : List Token → List Token → Type 0}
    → ((names : List (List ℕ)) (n : List ℕ) → Among n (f names) → Among n (g names)) → Blocks f a → Blocks g a
blocks_among {f} {g} {a} w b = record { block = block }
  where
    block : (old new : List Token) → a old new → Adds g old new
    block old new h =
        let k = b.block old new h in (
          k.0,
          k.1,
          record {
            level = k.2.level;
            starts = λ names d rest m. follow_so (f names) (g names) (w names) d (page_lines d k.0 ++ rest)
                (k.2.starts names d rest m);
          },
        )

pub nothing_blocks : (f : List (List ℕ) → List (List ℕ)) → ((names : List (List ℕ)) (n : List ℕ) → Among n names → Among n (f names))
    → Blocks f (λ (old new : List Token). new ≡ old)
nothing_blocks f w = record {
  block = λ old new e. ([], e ∙ sym (append-nil old), record { level = λ d. refl; starts = λ names d rest h. follow_so names (f names) (w names) d rest h });
}

-- ---- a first line, and what stands behind it

head_then : (n : List ℕ) (V : List ℕ → Type 0) (f : List (List ℕ) → List (List ℕ)) (old between new : List Token) → HasHead n V old between → Adds f between new
    → HasHead n V old new
head_then n V f old between new one two =
    let lines = λ (d : ℕ). lines_append d (one.token ∷ one.rest) two.0 ∙ ap
    (λ (ls : List (List ℕ)). ls ++ page_lines (depth_behind d (one.token ∷ one.rest)) two.0) (one.lines d).1 in
    record {
      token = one.token;
      rest = one.rest ++ two.0;
      added = two.1 ∙ ap (λ (l : List Token). l ++ two.0) one.added ∙ append_assoc old (one.token ∷ one.rest) two.0;
      named = one.named;
      ends = one.ends;
      value = one.value;
      lines = λ d. ((one.lines d).0 ++ page_lines (depth_behind d (one.token ∷ one.rest)) two.0, lines d);
      level = λ d. depth_append d (one.token ∷ one.rest) two.0 ∙ ap (λ e. depth_behind e two.0) (one.level d) ∙ two.2.level d;
    }

begins_then : (fs : List First) (f : List (List ℕ) → List (List ℕ)) (old between new : List Token) → BeginsAs fs old between → Adds f between new
    → BeginsAs fs old new
begins_then [] f old between new h k = h
begins_then (x ∷ fs) f old between new (inl h) k = inl (record { named = h.named; head = head_then x.name (Behind x.opening) f old between new h.head k })
begins_then (x ∷ fs) f old between new (inr h) k = inr (begins_then fs f old between new h k)

pub firsts_then : {fs : List First} {f : List (List ℕ) → List (List ℕ)} {a b : List Token → List Token → Type 0} → Firsts fs a → Blocks f b
    → Firsts fs (a then b)
firsts_then {fs} {f} {a} {b} p q = record { first = first }
  where
    first : (old new : List Token) → (a then b) old new → BeginsAs fs old new
    first old new (between, h, k) = begins_then fs f old between new (p.first old between h) (q.block between new k)

-- ---- nothing on both sides

pub nothing_tells : {H P : Type 0} (f : List (List ℕ) → List (List ℕ)) (fit : List (List ℕ) → Bool)
    → ((names : List (List ℕ)) (n : List ℕ) → Among n names → Among n (f names))
    → P → Tells f fit H P (λ (old new : List Token). new ≡ old) (λ (old new : List Token). new ≡ old)
nothing_tells f fit w p = record {
  left = nothing_blocks f w;
  right = nothing_blocks f w;
  tells = λ old before ts us a b known names d rest following is_fit m n same. (
    p,
    sym (ap (λ (l : List Token). page_lines d l ++ rest) (nothing_added old ts a)) ∙ same
        ∙ ap (λ (l : List Token). page_lines d l ++ following) (nothing_added before us b),
  );
}

-- ---- on one side alone

-- names that follow lines are those of what stands before them
pub follows : {g : List (List ℕ) → List (List ℕ)} {a : List Token → List Token → Type 0} → Blocks g a → (old ts : List Token) → a old (old ++ ts)
    → (names : List (List ℕ)) (d : ℕ) (rest : List (List ℕ)) → Follow names d rest → Follow (g names) d (page_lines d ts ++ rest)
follows {g} b old ts h names d rest m =
    let k = b.block old (old ++ ts) h in
    subst (λ (l : List Token). Follow (g names) d (page_lines d l ++ rest)) (sym (same_added old ts k.0 k.1)) (k.2.starts names d rest m)

pub right_alone : {f g : List (List ℕ) → List (List ℕ)} {fit : List (List ℕ) → Bool} {H P : Type 0} {fs : List First} {a b : List Token → List Token → Type 0}
    → Blocks f a → Blocks f b → Blocks g a → Firsts fs b → ((names : List (List ℕ)) → fit names ≡ true → are_apart (names_of fs) (g names) ≡ true)
    → Tells f fit H P a b
right_alone {f} {g} {fit} {H} {P} {fs} p q r s apart = record {
  left = p;
  right = q;
  tells = λ old before ts us h k known names d rest following is_fit m n same.
      absurd (absent_never s before us k (g names) d (page_lines d ts ++ rest) following (apart names is_fit) (follows r old ts h names d rest m) same);
}

pub left_alone : {f g : List (List ℕ) → List (List ℕ)} {fit : List (List ℕ) → Bool} {H P : Type 0} {fs : List First} {a b : List Token → List Token → Type 0}
    → Blocks f a → Blocks f b → Firsts fs a → Blocks g b → ((names : List (List ℕ)) → fit names ≡ true → are_apart (names_of fs) (g names) ≡ true)
    → Tells f fit H P a b
left_alone {f} {g} {fit} {H} {P} {fs} p q s r apart = record {
  left = p;
  right = q;
  tells = λ old before ts us h k known names d rest following is_fit m n same.
      absurd (absent_never s old ts h (g names) d (page_lines d us ++ following) rest (apart names is_fit) (follows r before us k names d following n)
      (sym same));
}

-- names that may follow are fewer
pub tells_fit : {f : List (List ℕ) → List (List ℕ)} {fit wide : List (List ℕ) → Bool} {H P : Type 0} {a b : List Token → List Token → Type 0}
    → ((names : List (List ℕ)) → wide names ≡ true → fit names ≡ true) → Tells f fit H P a b → Tells f wide H P a b
tells_fit w t = record {
  left = t.left;
  right = t.right;
  tells = λ old before ts us h k known names d rest following is_fit. t.tells old before ts us h k known names d rest following (w names is_fit);
}

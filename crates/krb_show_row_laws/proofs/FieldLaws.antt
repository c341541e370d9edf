-- Fields one after another, and structs and lists of them.
use Rattle.std.proofs.Common.{◌≡◌, ◌⊎◌, ℕ, ◌<◌, Bool, true, ◌&&◌, inl, inr, refl, sym, ap, subst, ◌∙◌, List, [], ◌∷◌, ◌++◌, Option, None, Some}
use Rattle.std.proofs.lemmas.List.{append_assoc, append_cancel_left, append-nil}
use Rattle.std.specs.Option.{IfSome}
use Rattle.krb_show_text.specs.Text.{line, page_lines, value_text}
use Rattle.krb_show.specs.Tokens.{Label, Token}
use Rattle.krb_show.specs.Pages.{◌then◌, optional_of}
use Rattle.krb_show_row_laws.specs.Telling.{is_name}
use Rattle.krb_show_row_laws.proofs.SplitLaws.{and_left, and_right}
use Rattle.krb_show_row_laws.specs.Blocks.{depth_behind, Among, is_apart, Follow, IsBlock, Adds, Blocks, HasHead, Heads, Tells, TellsValues}
use Rattle.krb_show_row_laws.proofs.BlockLaws.{lines_append, depth_append, line_at, one_value_text, head_block, not_following}

-- ---- the first element of lists of lines

pub first_line : (k l : List ℕ) (ks ls : List (List ℕ)) → k ∷ ks ≡ l ∷ ls → k ≡ l
first_line k l ks ls e = cc

-- what was appended is appended
pub same_added : (old ts us : List Token) → old ++ ts ≡ old ++ us → ts ≡ us
same_added old ts us e = append_cancel_left old ts us e

-- ---- one after another

both_block : (f g : List (List ℕ) → List (List ℕ)) (ts us : List Token) → IsBlock f ts → IsBlock g us → IsBlock (λ names. f (g names)) (ts ++ us)
both_block f g ts us p q = record { level = level; starts = starts }
  where
    level : (d : ℕ) → depth_behind d (ts ++ us) ≡ d
    level d = depth_append d ts us ∙ ap (λ e. depth_behind e us) (p.level d) ∙ q.level d

    starts : (names : List (List ℕ)) (d : ℕ) (rest : List (List ℕ)) → Follow names d rest → Follow (f (g names)) d (page_lines d (ts ++ us) ++ rest)
    starts names d rest h =
        let lines = ap (λ (ls : List (List ℕ)). ls ++ rest) (lines_append d ts us ∙ ap (λ e. page_lines d ts ++ page_lines e us) (p.level d))
        ∙ append_assoc (page_lines d ts) (page_lines d us) rest in
        subst (Follow (f (g names)) d) (sym lines) (p.starts (g names) d (page_lines d us ++ rest) (q.starts names d rest h))

both_lines : (f : List (List ℕ) → List (List ℕ)) (d : ℕ) (ts us : List Token) (rest : List (List ℕ)) → IsBlock f ts
    → page_lines d (ts ++ us) ++ rest ≡ page_lines d ts ++ (page_lines d us ++ rest)
both_lines f d ts us rest p =
    ap (λ (ls : List (List ℕ)). ls ++ rest) (lines_append d ts us ∙ ap (λ e. page_lines d ts ++ page_lines e us) (p.level d))
    ∙ append_assoc (page_lines d ts) (page_lines d us) rest

pub both_blocks : {f g : List (List ℕ) → List (List ℕ)} {a b : List Token → List Token → Type 0} → Blocks f a → Blocks g b
    → Blocks (λ names. f (g names)) (a then b)
both_blocks {f} {g} {a} {b} p q = record { block = block }
  where
    block : (old new : List Token) → (a then b) old new → Adds (λ names. f (g names)) old new
    block old new (between, h, k) =
        let first = p.block old between h in
        let second = q.block between new k in (
          first.0 ++ second.0,
          second.1 ∙ ap (λ (l : List Token). l ++ second.0) first.1
              ∙ append_assoc old first.0 second.0,
          both_block f g first.0 second.0 first.2 second.2,
        )

-- the parts of what two append, one after the other
record Parts (f g : List (List ℕ) → List (List ℕ)) (a b : List Token → List Token → Type 0) (old ts : List Token) : Type 0 where
  one : List Token
  two : List Token
  whole : ts ≡ one ++ two
  first : a old (old ++ one)
  second : b (old ++ one) ((old ++ one) ++ two)
  first_block : IsBlock f one
  second_block : IsBlock g two

parts : (f g : List (List ℕ) → List (List ℕ)) (a b : List Token → List Token → Type 0) → Blocks f a → Blocks g b → (old ts : List Token)
    → (a then b) old (old ++ ts)
    → Parts f g a b old ts
parts f g a b p q old ts (between, h, k) =
    let one = p.block old between h in
    let two = q.block between (old ++ ts) k in
    let here : a old (old ++ one.0) = subst (a old) one.1 h in
    let there : b (old ++ one.0) (old ++ ts) = subst (λ (m : List Token). b m (old ++ ts)) one.1 k in
    let whole : old ++ ts ≡ (old ++ one.0) ++ two.0 = two.1 ∙ ap (λ (m : List Token). m ++ two.0) one.1 in
    record {
      one = one.0;
      two = two.0;
      whole = same_added old ts (one.0 ++ two.0) (whole ∙ append_assoc old one.0 two.0);
      first = here;
      second = subst (b (old ++ one.0)) whole there;
      first_block = one.2;
      second_block = two.2;
    }

-- one after the other, where the second may be told by what the first told
pub then_by : {f g : List (List ℕ) → List (List ℕ)} {fit wide : List (List ℕ) → Bool} {H K P Q : Type 0} {a b c e : List Token → List Token → Type 0}
    → (H → P → K) → Tells f fit H P a b → Tells g wide K Q c e → Tells (λ names. f (g names)) (λ names. fit (g names) && wide names) H (P × Q) (a then c)
    (b then e)
then_by {f} {g} {fit} {wide} {H} {K} {P} {Q} {a} {b} {c} {e} by s t = record {
  left = both_blocks s.left t.left;
  right = both_blocks s.right t.right;
  tells = tells;
}
  where
    tells : (old before ts us : List Token) → (a then c) old (old ++ ts) → (b then e) before (before ++ us) → H
        → (names : List (List ℕ)) (d : ℕ) (rest following : List (List ℕ)) → fit (g names) && wide names ≡ true → Follow names d rest → Follow names d following
        → page_lines d ts ++ rest ≡ page_lines d us ++ following → (P × Q) × (rest ≡ following)
    tells old before ts us h k known names d rest following is_fit m n same =
        let p = parts f g a c s.left t.left old ts h in
        let q = parts f g b e s.right t.right before us k in
        let lines : page_lines d p.one ++ (page_lines d p.two ++ rest) ≡ page_lines d q.one ++ (page_lines d q.two ++ following) =
        sym (both_lines f d p.one p.two rest p.first_block) ∙ ap (λ (l : List Token). page_lines d l ++ rest) (sym p.whole) ∙ same
        ∙ ap (λ (l : List Token). page_lines d l ++ following) q.whole ∙ both_lines f d q.one q.two following q.first_block in
        let one = s.tells old before p.one q.one p.first q.first known (g names) d (page_lines d p.two ++ rest) (page_lines d q.two ++ following)
        (and_left (fit (g names)) (wide names) is_fit) (p.second_block.starts names d rest m) (q.second_block.starts names d following n) lines in
        let two = t.tells (old ++ p.one) (before ++ q.one) p.two q.two p.second q.second (by known one.0) names d rest following
        (and_right (fit (g names)) (wide names) is_fit) m n one.1 in
        ((one.0, two.0), two.1)

infixl 20 ◌and◌
pub ◌and◌ : {f g : List (List ℕ) → List (List ℕ)} {fit wide : List (List ℕ) → Bool} {H P Q : Type 0} {a b c e : List Token → List Token → Type 0}
    → Tells f fit H P a b → Tells g wide H Q c e → Tells (λ names. f (g names)) (λ names. fit (g names) && wide names) H (P × Q) (a then c) (b then e)
s and t = then_by (λ h p. h) s t

infixl 20 ◌and_so◌
pub ◌and_so◌ : {f g : List (List ℕ) → List (List ℕ)} {fit wide : List (List ℕ) → Bool} {H P Q : Type 0} {a b c e : List Token → List Token → Type 0}
    → Tells f fit H P a b → Tells g wide P Q c e → Tells (λ names. f (g names)) (λ names. fit (g names) && wide names) H (P × Q) (a then c) (b then e)
s and_so t = then_by (λ h p. p) s t

-- what is told may be less, and what is known more
pub tells_so : {f : List (List ℕ) → List (List ℕ)} {fit : List (List ℕ) → Bool} {H K P Q : Type 0} {a b : List Token → List Token → Type 0}
    → (K → H) → (P → Q) → Tells f fit H P a b → Tells f fit K Q a b
tells_so k q s = record {
  left = s.left;
  right = s.right;
  tells = λ old before ts us h i known names d rest following fit m n same. let told =
      s.tells old before ts us h i (k known) names d rest following fit m n same in (q told.0, told.1);
}

-- ---- first lines

-- two whose first lines are under one name, and equal, have one text behind it
pub one_head : (n : List ℕ) (V W : List ℕ → Type 0) (a b : List Token → List Token → Type 0) → Heads n V a → Heads n W b → (old before ts us : List Token)
    → a old (old ++ ts) → b before (before ++ us) → (d : ℕ) (rest following : List (List ℕ)) → page_lines d ts ++ rest ≡ page_lines d us ++ following
    → (text : List ℕ) × V text × W text
one_head n V W a b p q old before ts us h k d rest following same =
    let t = p.head old (old ++ ts) h in
    let u = q.head before (before ++ us) k in
    let is_t = same_added old ts (t.token ∷ t.rest) t.added in
    let is_u = same_added before us (u.token ∷ u.rest) u.added in
    let t_lines = ap (page_lines d) is_t ∙ (t.lines d).1 in
    let u_lines = ap (page_lines d) is_u ∙ (u.lines d).1 in
    let lines : line d t.token ∷ ((t.lines d).0 ++ rest) ≡ line d u.token ∷ ((u.lines d).0 ++ following) =
    ap (λ (ls : List (List ℕ)). ls ++ rest) (sym t_lines) ∙ same ∙ ap (λ (ls : List (List ℕ)). ls ++ following) u_lines in
    let texts = one_value_text d t.token u.token (t.named ∙ sym u.named) (first_line _ _ _ _ lines) in
    (value_text t.token.form t.token, t.value, subst W (sym texts) u.value)

-- nothing on the one side: then the first line of the other is not among what follows
pub not_first : (n : List ℕ) (V : List ℕ → Type 0) (a : List Token → List Token → Type 0) → is_name n ≡ true → Heads n V a → (old us : List Token)
    → a old (old ++ us)
    → (names : List (List ℕ)) (d : ℕ) (rest following : List (List ℕ)) → is_apart n names ≡ true → Follow names d rest → rest ≡ page_lines d us ++ following → ⊥
not_first n V a name p old us h names d rest following fit m same =
    let u = p.head old (old ++ us) h in
    let is_u = same_added old us (u.token ∷ u.rest) u.added in
    let lines : rest ≡ line d u.token ∷ ((u.lines d).0 ++ following) = same
    ∙ ap (λ (ls : List (List ℕ)). ls ++ following) (ap (page_lines d) is_u ∙ (u.lines d).1) in
    not_following n names d (line d u.token) fit (line_at d n u.token name u.named u.ends) (subst (Follow names d) lines m)

-- ---- optional fields

pub nothing_added : (old ts : List Token) → old ++ ts ≡ old → ts ≡ []
nothing_added old ts e = same_added old ts [] (e ∙ sym (append-nil old))

pub more_among : (n : List ℕ) (names : List (List ℕ)) (d : ℕ) (ls : List (List ℕ)) → Follow names d ls → Follow (n ∷ names) d ls
more_among n names d [] h = tt
more_among n names d (l ∷ ls) h = record { at = h.at; name = h.name; is = h.is; place = place h.place }
  where
    place : (h.at < d) ⊎ ((h.at ≡ d) × Among h.name names) → (h.at < d) ⊎ ((h.at ≡ d) × Among h.name (n ∷ names))
    place (inl p) = inl p
    place (inr p) = inr (p.0, inr p.1)

pub one_among : (n : List ℕ) (names : List (List ℕ)) (d : ℕ) (ls : List (List ℕ)) → Follow (n ∷ []) d ls → Follow (n ∷ names) d ls
one_among n names d [] h = tt
one_among n names d (l ∷ ls) h = record { at = h.at; name = h.name; is = h.is; place = place h.place }
  where
    place : (h.at < d) ⊎ ((h.at ≡ d) × Among h.name (n ∷ [])) → (h.at < d) ⊎ ((h.at ≡ d) × Among h.name (n ∷ names))
    place (inl p) = inl p
    place (inr (e, inl f)) = inr (e, inl f)
    place (inr (e, inr f)) = absurd f

pub empty_block : (n : List ℕ) → IsBlock (λ names. n ∷ names) []
empty_block n = record { level = λ d. refl; starts = λ names d rest h. more_among n names d rest h }

pub head_block_among : (n : List ℕ) (V : List ℕ → Type 0) (old new : List Token) → is_name n ≡ true → HasHead n V old new → Adds (λ names. n ∷ names) old new
head_block_among n V old new h k =
    let b = head_block n V old new h k in
    (b.0, b.1, record { level = b.2.level; starts = λ names d rest f. one_among n names d (page_lines d b.0 ++ rest) (b.2.starts names d rest f) })

optional_blocks : {A : Type 0} (n : List ℕ) (V : List ℕ → Type 0) (is_value : A → Type 0) (shows : A → List Token → List Token → Type 0) → is_name n ≡ true
    → ((v : A) → is_value v → Heads n V (shows v)) → (o : Option A) → IfSome o is_value → Blocks (λ names. n ∷ names) (optional_of shows o)
optional_blocks n V is_value shows name p None h = record { block = λ old new e. ([], e ∙ sym (append-nil old), empty_block n) }
optional_blocks n V is_value shows name p (Some v) h = record { block = λ old new s. head_block_among n V old new name ((p v h).head old new s) }

pub tells_optional : {A : Type 0} {is_value : A → Type 0} {V : List ℕ → Type 0} {shows : Label → A → List Token → List Token → Type 0}
    → TellsValues is_value V shows → (label : Label) (o p : Option A) → is_name label.text ≡ true → IfSome o is_value → IfSome p is_value
    → Tells (λ names. label.text ∷ names) (λ names. is_apart label.text names) (Unit {0}) (o ≡ p) (optional_of (shows label) o) (optional_of (shows label) p)
tells_optional {A} {is_value} {V} {shows} t label o p name h k = record {
  left = optional_blocks label.text V is_value (shows label) name (λ v i. t.heads label v name i) o h;
  right = optional_blocks label.text V is_value (shows label) name (λ v i. t.heads label v name i) p k;
  tells = tells o p h k;
}
  where
    tells : (o p : Option A) → IfSome o is_value → IfSome p is_value → (old before ts us : List Token) → optional_of (shows label) o old (old ++ ts)
        → optional_of (shows label) p before (before ++ us) → Unit {0} → (names : List (List ℕ)) (d : ℕ) (rest following : List (List ℕ))
        → is_apart label.text names ≡ true → Follow names d rest → Follow names d following → page_lines d ts ++ rest ≡ page_lines d us ++ following → (o ≡ p)
        × (rest ≡ following)
    tells None None i j old before ts us a b known names d rest following fit m n same =
        let left = ap (λ (l : List Token). page_lines d l ++ rest) (nothing_added old ts a) in
        let right = ap (λ (l : List Token). page_lines d l ++ following) (nothing_added before us b) in
        (refl, sym left ∙ same ∙ right)
    tells None (Some w) i j old before ts us a b known names d rest following fit m n same =
        let left = ap (λ (l : List Token). page_lines d l ++ rest) (nothing_added old ts a) in
        absurd (not_first label.text V (shows label w) name (t.heads label w name j) before us b names d rest following fit m (sym left ∙ same))
    tells (Some v) None i j old before ts us a b known names d rest following fit m n same =
        let right = ap (λ (l : List Token). page_lines d l ++ following) (nothing_added before us b) in
        absurd (not_first label.text V (shows label v) name (t.heads label v name i) old ts a names d following rest fit n (sym right ∙ sym same))
    tells (Some v) (Some w) i j old before ts us a b known names d rest following fit m n same =
        let told = (t.tells label v w name i j).tells old before ts us a b known names d rest following refl m n same in
        (ap Some told.0, told.1)

-- Structs and lists: what stands between a first line and the end.
use Rattle.std.proofs.Common.{◌≡◌, ℕ, ◌+◌, ◌-◌, Bool, true, refl, sym, ap, subst, ◌∙◌, List, [], ◌∷◌, ◌++◌, length, arith}
use Rattle.std.proofs.lemmas.List.{append_assoc, append-nil}
use Rattle.std.specs.List.{AllByRecursion}
use Rattle.std.specs.Fmt.{decimal}
use Rattle.krb_show.specs.declared.token.Form.TheVariants as form
use Rattle.krb_show_text.specs.Text.{line, page_lines, value_text}
use Rattle.krb_show.specs.Tokens.{Label, Token, adds, item_of, leaf, mark}
use Rattle.krb_show.specs.Pages.{◌then◌, each_of, list_of, struct_of}
use Rattle.krb_show_row_laws.specs.Telling.{Stops, is_name_octet, is_name}
use Rattle.krb_show_row_laws.proofs.SplitLaws.{tail}
use Rattle.krb_show_row_laws.specs.Blocks.{depth_behind, is_apart, Follow, IsBlock, Adds, Blocks, HasHead, Heads, Tells, TellsValues, IsStruct, IsList}
use Rattle.krb_show_row_laws.proofs.BlockLaws.{lines_append, depth_append, head_blocks, follow_deeper}
use Rattle.krb_show_row_laws.proofs.FieldLaws.{both_blocks, then_by, tells_so, not_first, nothing_added, same_added, one_among, empty_block}

-- a first line that what follows is further in than
pub record Opens (n : List ℕ) (V : List ℕ → Type 0) (t : Token) : Type 0 where
  pub named : t.label.text ≡ n
  pub heading : V (value_text t.form t)
  pub ends : Stops is_name_octet (value_text t.form t)
  pub lines : (d : ℕ) (ts : List Token) → page_lines d (t ∷ ts) ≡ line d t ∷ page_lines (d + 1) ts
  pub behind : (d : ℕ) (ts : List Token) → depth_behind d (t ∷ ts) ≡ depth_behind (d + 1) ts

-- an end, behind which is as far in as before the first line
pub record Closes (t : Token) : Type 0 where
  pub lines : (d : ℕ) → page_lines d (t ∷ []) ≡ []
  pub behind : (d : ℕ) → depth_behind (d + 1) (t ∷ []) ≡ d

abbrev pub enclosed : Token → (List Token → List Token → Type 0) → Token → List Token → List Token → Type 0
enclosed begin inner end = adds begin then (inner then adds end)

-- the parts of what is appended
record Inside (f : List (List ℕ) → List (List ℕ)) (begin end : Token) (inner : List Token → List Token → Type 0) (old new : List Token) : Type 0 where
  ts : List Token
  added : new ≡ old ++ begin ∷ (ts ++ end ∷ [])
  within : inner (old ++ begin ∷ []) ((old ++ begin ∷ []) ++ ts)
  block : IsBlock f ts

inside : (f : List (List ℕ) → List (List ℕ)) (begin end : Token) (inner : List Token → List Token → Type 0) → Blocks f inner → (old new : List Token)
    → enclosed begin inner end old new → Inside f begin end inner old new
inside f begin end inner p old new (first, e, (last, h, g)) =
    let b = p.block first last h in
    let from : inner (old ++ begin ∷ []) last = subst (λ (m : List Token). inner m last) e h in
    let to = b.1 ∙ ap (λ (m : List Token). m ++ b.0) e in
    record {
      ts = b.0;
      added = g ∙ ap (λ (m : List Token). m ++ end ∷ []) to ∙ append_assoc (old ++ begin ∷ []) b.0 (end ∷ []) ∙ append_assoc old (begin ∷ []) (b.0 ++ end ∷ []);
      within = subst (inner (old ++ begin ∷ [])) to from;
      block = b.2;
    }

inner_lines : (f : List (List ℕ) → List (List ℕ)) (n : List ℕ) (V : List ℕ → Type 0) (begin end : Token) → Opens n V begin → Closes end → (ts : List Token)
    → IsBlock f ts → (d : ℕ)
    → page_lines d (begin ∷ (ts ++ end ∷ [])) ≡ line d begin ∷ page_lines (d + 1) ts
inner_lines f n V begin end p q ts b d =
    p.lines d (ts ++ end ∷ [])
    ∙ ap (λ (ls : List (List ℕ)). line d begin ∷ ls)
    (lines_append (d + 1) ts (end ∷ []) ∙ ap (λ (ls : List (List ℕ)). page_lines (d + 1) ts ++ ls) (q.lines (depth_behind (d + 1) ts))
    ∙ append-nil (page_lines (d + 1) ts))

inner_level : (f : List (List ℕ) → List (List ℕ)) (n : List ℕ) (V : List ℕ → Type 0) (begin end : Token) → Opens n V begin → Closes end → (ts : List Token)
    → IsBlock f ts → (d : ℕ)
    → depth_behind d (begin ∷ (ts ++ end ∷ [])) ≡ d
inner_level f n V begin end p q ts b d =
    p.behind d (ts ++ end ∷ []) ∙ depth_append (d + 1) ts (end ∷ []) ∙ ap (λ e. depth_behind e (end ∷ [])) (b.level (d + 1)) ∙ q.behind d

pub enclosed_heads : {f : List (List ℕ) → List (List ℕ)} {inner : List Token → List Token → Type 0} (n : List ℕ) (V : List ℕ → Type 0) (begin end : Token)
    → Opens n V begin → Closes end → Blocks f inner → Heads n V (enclosed begin inner end)
enclosed_heads {f} {inner} n V begin end p q b = record { head = head }
  where
    head : (old new : List Token) → enclosed begin inner end old new → HasHead n V old new
    head old new h =
        let i = inside f begin end inner b old new h in
        record {
          token = begin;
          rest = i.ts ++ end ∷ [];
          added = i.added;
          named = p.named;
          ends = p.ends;
          value = p.heading;
          lines = λ d. (page_lines (d + 1) i.ts, inner_lines f n V begin end p q i.ts i.block d);
          level = inner_level f n V begin end p q i.ts i.block;
        }

pub tells_enclosed : {f : List (List ℕ) → List (List ℕ)} {fit : List (List ℕ) → Bool} {H P : Type 0} {inner other : List Token → List Token → Type 0}
    (n : List ℕ) (V : List ℕ → Type 0) (begin end first last : Token) → is_name n ≡ true → Opens n V begin → Closes end → Opens n V first → Closes last
    → Tells f fit H P inner other → fit [] ≡ true
    → Tells (λ names. n ∷ []) (λ names. true) H P (enclosed begin inner end) (enclosed first other last)
tells_enclosed {f} {fit} {H} {P} {inner} {other} n V begin end first last name p q r s t is_fit = record {
  left = head_blocks n V (enclosed begin inner end) name (enclosed_heads n V begin end p q t.left);
  right = head_blocks n V (enclosed first other last) name (enclosed_heads n V first last r s t.right);
  tells = tells;
}
  where
    tells : (old before ts us : List Token) → enclosed begin inner end old (old ++ ts) → enclosed first other last before (before ++ us) → H
        → (names : List (List ℕ)) (d : ℕ) (rest following : List (List ℕ)) → true ≡ true → Follow names d rest → Follow names d following
        → page_lines d ts ++ rest ≡ page_lines d us ++ following → P × (rest ≡ following)
    tells old before ts us h k known names d rest following fits m o same =
        let i = inside f begin end inner t.left old (old ++ ts) h in
        let j = inside f first last other t.right before (before ++ us) k in
        let left = ap (page_lines d) (same_added old ts (begin ∷ (i.ts ++ end ∷ [])) i.added) ∙ inner_lines f n V begin end p q i.ts i.block d in
        let right = ap (page_lines d) (same_added before us (first ∷ (j.ts ++ last ∷ [])) j.added) ∙ inner_lines f n V first last r s j.ts j.block d in
        let lines : line d begin ∷ (page_lines (d + 1) i.ts ++ rest) ≡ line d first ∷ (page_lines (d + 1) j.ts ++ following) =
        ap (λ (ls : List (List ℕ)). ls ++ rest) (sym left) ∙ same ∙ ap (λ (ls : List (List ℕ)). ls ++ following) right in
        t.tells (old ++ begin ∷ []) (before ++ first ∷ []) i.ts j.ts i.within j.within known [] (d + 1) rest following is_fit
        (follow_deeper names d rest m) (follow_deeper names d following o) (tail _ _ _ _ lines)

-- ---- structs

opens_struct : (label : Label) → Opens label.text IsStruct (mark form.Struct label)
opens_struct label = record { named = refl; heading = refl; ends = refl; lines = λ d ts. refl; behind = λ d ts. refl }

one_less : (d : ℕ) → d + 1 - 1 ≡ d
one_less d = omega arith

closes_struct : (label : Label) → Closes (mark form.StructEnd label)
closes_struct label = record { lines = λ d. refl; behind = one_less }

pub struct_heads : {f : List (List ℕ) → List (List ℕ)} {inner : List Token → List Token → Type 0} (label : Label) → Blocks f inner
    → Heads label.text IsStruct (struct_of label inner)
struct_heads label b = enclosed_heads label.text IsStruct (mark form.Struct label) (mark form.StructEnd label) (opens_struct label) (closes_struct label) b

-- a struct tells what its fields tell, where names of optional fields are apart from those that may follow them
pub tells_struct : {f : List (List ℕ) → List (List ℕ)} {fit : List (List ℕ) → Bool} {H P : Type 0} {inner other : List Token → List Token → Type 0}
    (label : Label) → is_name label.text ≡ true → Tells f fit H P inner other → fit [] ≡ true
    → Tells (λ names. label.text ∷ []) (λ names. true) H P (struct_of label inner) (struct_of label other)
tells_struct label name t is_fit =
    tells_enclosed label.text IsStruct (mark form.Struct label) (mark form.StructEnd label) (mark form.Struct label) (mark form.StructEnd label) name
    (opens_struct label) (closes_struct label) (opens_struct label) (closes_struct label) t is_fit

-- ---- lists

pub opens_list : (label : Label) (count : List ℕ) → Opens label.text IsList (leaf form.List label count)
opens_list label count = record { named = refl; heading = (_, refl); ends = refl; lines = λ d ts. refl; behind = λ d ts. refl }

pub closes_list : (label : Label) → Closes (mark form.ListEnd label)
closes_list label = record { lines = λ d. refl; behind = one_less }

-- more names may be first
pub blocks_wider : {f g : List (List ℕ) → List (List ℕ)} {a : List Token → List Token → Type 0}
    → ((names : List (List ℕ)) (d : ℕ) (ls : List (List ℕ)) → Follow (f names) d ls → Follow (g names) d ls) → Blocks f a → Blocks g a
blocks_wider {f} {g} {a} w b = record { block = block }
  where
    block : (old new : List Token) → a old new → Adds g old new
    block old new h =
        let k = b.block old new h in
        (k.0, k.1, record { level = k.2.level; starts = λ names d rest m. w names d (page_lines d k.0 ++ rest) (k.2.starts names d rest m) })

pub tells_wider : {f g : List (List ℕ) → List (List ℕ)} {fit : List (List ℕ) → Bool} {H P : Type 0} {a b : List Token → List Token → Type 0}
    → ((names : List (List ℕ)) (d : ℕ) (ls : List (List ℕ)) → Follow (f names) d ls → Follow (g names) d ls) → Tells f fit H P a b → Tells g fit H P a b
tells_wider w t = record { left = blocks_wider w t.left; right = blocks_wider w t.right; tells = t.tells }

-- the first line of the one is that of both
then_heads : {f : List (List ℕ) → List (List ℕ)} (n : List ℕ) (V : List ℕ → Type 0) (a b : List Token → List Token → Type 0) → Heads n V a → Blocks f b
    → Heads n V (a then b)
then_heads {f} n V a b p q = record { head = head }
  where
    head : (old new : List Token) → (a then b) old new → HasHead n V old new
    head old new (between, h, k) =
        let one = p.head old between h in
        let two = q.block between new k in
        let lines = λ (d : ℕ). lines_append d (one.token ∷ one.rest) two.0
        ∙ ap (λ (ls : List (List ℕ)). ls ++ page_lines (depth_behind d (one.token ∷ one.rest)) two.0) (one.lines d).1 in
        record {
          token = one.token;
          rest = one.rest ++ two.0;
          added = two.1 ∙ ap (λ (l : List Token). l ++ two.0) one.added ∙ append_assoc old (one.token ∷ one.rest) two.0;
          named = one.named;
          ends = one.ends;
          value = one.value;
          lines = λ d. (_, lines d);
          level = λ d. depth_append d (one.token ∷ one.rest) two.0 ∙ ap (λ e. depth_behind e two.0) (one.level d) ∙ two.2.level d;
        }

each_blocks : {A : Type 0} (n : List ℕ) (V : List ℕ → Type 0) (is_value : A → Type 0) (shows : A → List Token → List Token → Type 0) → is_name n ≡ true
    → ((v : A) → is_value v → Heads n V (shows v)) → (vs : List A) → AllByRecursion is_value vs → Blocks (λ names. n ∷ names) (each_of shows vs)
each_blocks n V is_value shows name p [] h = record { block = λ old new e. ([], e ∙ sym (append-nil old), empty_block n) }
each_blocks n V is_value shows name p (v ∷ vs) h =
    blocks_wider {f = λ names. n ∷ []} {g = λ names. n ∷ names} (λ names d ls. one_among n names d ls)
    (both_blocks (head_blocks n V (shows v) name (p v h.0)) (each_blocks n V is_value shows name p vs h.1))

-- items under one name, up to a line that is not under it
tells_each : {A : Type 0} {is_value : A → Type 0} {V : List ℕ → Type 0} {shows : Label → A → List Token → List Token → Type 0}
    → TellsValues is_value V shows → (label : Label) → is_name label.text ≡ true → (vs ws : List A) → AllByRecursion is_value vs → AllByRecursion is_value ws
    → Tells (λ names. label.text ∷ names) (λ names. is_apart label.text names) (Unit {0}) (vs ≡ ws) (each_of (shows label) vs) (each_of (shows label) ws)
tells_each {A} {is_value} {V} {shows} t label name [] [] h k = record {
  left = each_blocks label.text V is_value (shows label) name (λ v i. t.heads label v name i) [] h;
  right = each_blocks label.text V is_value (shows label) name (λ v i. t.heads label v name i) [] k;
  tells = λ old before ts us a b known names d rest following fit m n same. (
    refl,
    sym (ap (λ (l : List Token). page_lines d l ++ rest) (nothing_added old ts a)) ∙ same
        ∙ ap (λ (l : List Token). page_lines d l ++ following) (nothing_added before us b),
  );
}
tells_each {A} {is_value} {V} {shows} t label name [] (w ∷ ws) h k =
    let blocks = each_blocks label.text V is_value (shows label) name (λ v i. t.heads label v name i) in
    let heads = then_heads label.text V (shows label w) (each_of (shows label) ws) (t.heads label w name k.0) (blocks ws k.1) in
    record {
      left = blocks [] h;
      right = blocks (w ∷ ws) k;
      tells = λ old before ts us a b known names d rest following fit m n same.
          absurd (not_first label.text V (each_of (shows label) (w ∷ ws)) name heads before us b names d rest following fit m
          (sym (ap (λ (l : List Token). page_lines d l ++ rest) (nothing_added old ts a)) ∙ same));
    }
tells_each {A} {is_value} {V} {shows} t label name (v ∷ vs) [] h k =
    let blocks = each_blocks label.text V is_value (shows label) name (λ v i. t.heads label v name i) in
    let heads = then_heads label.text V (shows label v) (each_of (shows label) vs) (t.heads label v name h.0) (blocks vs h.1) in
    record {
      left = blocks (v ∷ vs) h;
      right = blocks [] k;
      tells = λ old before ts us a b known names d rest following fit m n same.
          absurd (not_first label.text V (each_of (shows label) (v ∷ vs)) name heads old ts a names d following rest fit n
          (sym (ap (λ (l : List Token). page_lines d l ++ following) (nothing_added before us b)) ∙ sym same));
    }
tells_each {A} {is_value} {V} {shows} t label name (v ∷ vs) (w ∷ ws) h k =
    let both = then_by (λ u p. u) (t.tells label v w name h.0 k.0) (tells_each t label name vs ws h.1 k.1) in
    tells_wider {f = λ names. label.text ∷ []} {g = λ names. label.text ∷ names} (λ names d ls. one_among label.text names d ls)
    (tells_so (λ u. u) (λ p. ap (λ x. x ∷ vs) p.0 ∙ ap (λ (xs : List A). w ∷ xs) p.1) both)

pub list_heads : {A : Type 0} {is_value : A → Type 0} {V : List ℕ → Type 0} {shows : Label → A → List Token → List Token → Type 0}
    → TellsValues is_value V shows → (label : Label) → is_name label.text ≡ true → (vs : List A) → AllByRecursion is_value vs
    → Heads label.text IsList (list_of shows label vs)
list_heads {A} {is_value} {V} {shows} t label name vs h =
    enclosed_heads label.text IsList (leaf form.List label (decimal (length vs))) (mark form.ListEnd label) (opens_list label (decimal (length vs)))
    (closes_list label)
    (each_blocks label.text V is_value (shows (item_of label)) name (λ v i. t.heads (item_of label) v name i) vs h)

-- a list tells its items
pub tells_list : {A : Type 0} {is_value : A → Type 0} {V : List ℕ → Type 0} {shows : Label → A → List Token → List Token → Type 0}
    → TellsValues is_value V shows → TellsValues (AllByRecursion is_value) IsList (list_of shows)
tells_list {A} {is_value} {V} {shows} t = record {
  heads = λ label vs name h. list_heads t label name vs h;
  tells = λ label vs ws name h k. tells_enclosed label.text IsList (leaf form.List label (decimal (length vs))) (mark form.ListEnd label)
      (leaf form.List label (decimal (length ws))) (mark form.ListEnd label) name (opens_list label (decimal (length vs))) (closes_list label)
      (opens_list label (decimal (length ws))) (closes_list label) (tells_each t (item_of label) name vs ws h k) refl;
}

-- values that are shown as structs, each told by its fields
pub tells_structs : {A : Type 0} {is_value : A → Type 0} {f : List (List ℕ) → List (List ℕ)} {fit : List (List ℕ) → Bool} {P : A → A → Type 0}
    {fields : A → List Token → List Token → Type 0}
    → ((v w : A) → is_value v → is_value w → Tells f fit (Unit {0}) (P v w) (fields v) (fields w)) → fit [] ≡ true → ((v w : A) → P v w → v ≡ w)
    → TellsValues is_value IsStruct (λ label v. struct_of label (fields v))
tells_structs each is_fit one = record {
  heads = λ label v name h. struct_heads label (each v v h h).left;
  tells = λ label v w name h k. tells_so (λ u. u) (λ p. one v w p) (tells_struct label name (each v w h k) is_fit);
}

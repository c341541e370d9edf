-- Frames of password changes that were read, and octets that begin with none.
use Rattle.std.proofs.Common.{◌≡◌, ℕ, ◌+◌, ◌-◌, ◌<◌, ◌≤◌, ◌^◌, List, ◌∷◌, ◌++◌, length, take, drop, refl, sym, ap, ◌∙◌, append_assoc, subst, inl, inr, arith}
use Rattle.std.proofs.lemmas.List.{length-append, drop_at, take_rest}
use Rattle.krb_der_core.specs.Tlv.{tlv}
use Rattle.krb_der_core.specs.Reading.{TakesPrefix}
use Rattle.krb_der_core.specs.declared.der.DerEncode.{Ghosts as EncodingOf}
use Rattle.krb_messages.specs.Frame.{IsFramed}
use Rattle.krb_messages.specs.Rejected.{FrameError, FrameRejected}
use Rattle.krb_messages.specs.declared.kpasswd.error.ReadFrameError.{ReadFrameError}
use Rattle.krb_messages.proofs.Frames.{frame_errorless}
use Rattle.krb_c_calls.specs.Password.{BeginsWithFrame, RefusesFrame}
use Rattle.krb_c_calls.specs.Places.{StandsBefore}
use Rattle.krb_c_calls.specs.FrameStatuses.{frame_status}
use Rattle.krb_c_calls.proofs.Places.{Ends, stands}

-- the six octets before the messages, and what follows them
pub record Headed (octets rest : List ℕ) : Type 0 where
  pub header : List ℕ
  pub long : length header ≡ 6
  pub parts : octets ≡ header ++ rest

pub headed : (octets x m priv rest : List ℕ) → IsFramed x m priv → octets ≡ x ++ rest → Headed octets (m ++ (priv ++ rest))
headed octets x m priv rest f e =
    let h = f.whole ++ (0 ∷ 1 ∷ f.first) in
    record {
      header = h;
      long = omega (arith, length-append f.whole (0 ∷ 1 ∷ f.first), f.whole_long, f.first_long);
      parts = e ∙ ap (λ (l : List ℕ). l ++ rest) (f.parts ∙ sym (append_assoc f.whole (0 ∷ 1 ∷ f.first) (m ++ priv))) ∙ append_assoc h (m ++ priv) rest ∙ ap (λ (l : List ℕ). h ++ l) (append_assoc m priv rest);
    }

pub trailing : (octets rest : List ℕ) → Headed octets rest → take (length octets - 6) (drop 6 octets) ≡ rest
trailing octets rest h = take_rest octets 6 ∙ ap (drop 6) h.parts ∙ drop_at h.header rest 6 h.long

pub headed_size : (octets rest : List ℕ) → Headed octets rest → 6 + length rest ≡ length octets
headed_size octets rest h = omega (arith, h.long, ap length h.parts, length-append h.header rest)

-- what `element_size` tells
abbrev pub IsSizeOfFirst : List ℕ → ℕ → Type 0
IsSizeOfFirst octets size = (tag : ℕ) (content rest : List ℕ) → octets ≡ tlv tag content ++ rest → size ≡ length (tlv tag content)

-- what stands at the start
pub record Sizes (octets x m priv rest : List ℕ) (taken size : ℕ) : Type 0 where
  pub whole : taken ≡ 6 + length m + length priv
  pub first : size ≡ length m
  pub all : taken + length rest ≡ length octets

module _ {A B : Type 0} (a : EncodingOf A) (b : EncodingOf B) where
  pub begins : (octets x : List ℕ) (n : ℕ) (v : A) (w : B) → a.is_value v × b.is_value w → IsFramed x (a.enc v) (b.enc w) → TakesPrefix x n octets → BeginsWithFrame a b octets (a.enc v) (b.enc w) (drop n octets)
  begins octets x n v w valid f t = record { ap_message = (v, valid.0, refl); krb_priv = (w, valid.1, refl); whole = x; framed = f; start = t.prefix }

  first_size : (rest more : List ℕ) (v : A) (size : ℕ) → a.is_value v → IsSizeOfFirst rest size → rest ≡ a.enc v ++ more → size ≡ length (a.enc v)
  first_size rest more v size valid told e =
      let element = a.is_element v valid in
      told element.tag element.content more (e ∙ ap (λ (l : List ℕ). l ++ more) element.whole) ∙ sym (ap length element.whole)

  pub sizes : (octets x : List ℕ) (taken size : ℕ) (v : A) (w : B) → a.is_value v × b.is_value w → IsFramed x (a.enc v) (b.enc w) → TakesPrefix x taken octets
      → IsSizeOfFirst (take (length octets - 6) (drop 6 octets)) size → Sizes octets x (a.enc v) (b.enc w) (drop taken octets) taken size
  sizes octets x taken size v w valid f t told =
      let rest = drop taken octets in
      let h = headed octets x (a.enc v) (b.enc w) rest f t.prefix in
      let first = first_size (take (length octets - 6) (drop 6 octets)) (b.enc w ++ rest) v size valid.0 told (trailing octets (a.enc v ++ (b.enc w ++ rest)) h) in
      let all = headed_size octets (a.enc v ++ (b.enc w ++ rest)) h in
      let two = length-append (a.enc v) (b.enc w ++ rest) in
      let three = length-append (b.enc w) rest in
      let sum = ap length t.prefix ∙ length-append x rest in
      record { whole = omega (arith, all, two, three, sum, t.count); first = first; all = omega (arith, sum, t.count) }

  -- the frame's six octets are there, and the AP message behind them
  pub room : (octets x : List ℕ) (taken : ℕ) (v : A) (w : B) → IsFramed x (a.enc v) (b.enc w) → TakesPrefix x taken octets → 6 ≤ length octets
  room octets x taken v w f t = let all = headed_size octets (a.enc v ++ (b.enc w ++ drop taken octets)) (headed octets x (a.enc v) (b.enc w) (drop taken octets) f t.prefix) in omega (arith, all)

  -- ---- errors

  no_frame : (octets : List ℕ) (e : ReadFrameError) → length octets < 2 ^ 64 → FrameError a b octets e → (ap priv rest : List ℕ) → BeginsWithFrame a b octets ap priv rest → ⊥
  no_frame octets e lt first ap_octets priv rest f =
      let v = f.ap_message in
      let w = f.krb_priv in
      let fits : length f.whole < 2 ^ 64 = omega (arith, lt, ap length f.start, length-append f.whole rest) in
      let framed : IsFramed f.whole (a.enc v.0) (b.enc w.0) = subst (λ (l : List ℕ). IsFramed f.whole l (b.enc w.0)) v.2 (subst (λ (l : List ℕ). IsFramed f.whole ap_octets l) w.2 f.framed) in
      frame_errorless a b v.0 w.0 f.whole rest e v.1 w.1 fits framed (subst (λ (l : List ℕ). FrameError a b l e) f.start first)

  pub refused : (octets : List ℕ) (e : ReadFrameError) → length octets < 2 ^ 64 → FrameRejected a b octets e → RefusesFrame a b octets (frame_status e)
  refused octets e lt (inl memory) = inl (ap frame_status memory.0, memory.1)
  refused octets e lt (inr first) = inr (record { why = e; none = no_frame octets e lt first; first_error = first; named = refl })

  -- ---- places

  pub frame_length : (octets m priv rest : List ℕ) → BeginsWithFrame a b octets m priv rest → 6 + length m + length priv + length rest ≡ length octets
  frame_length octets m priv rest f =
      omega (arith, headed_size octets (m ++ (priv ++ rest)) (headed octets f.whole m priv rest f.framed f.start), length-append m (priv ++ rest), length-append priv rest)

  pub ap_stands : (octets m priv rest : List ℕ) (size : ℕ) → BeginsWithFrame a b octets m priv rest → size ≡ length m → StandsBefore m (priv ++ rest) octets 6 size
  ap_stands octets m priv rest size f count =
      let h = headed octets f.whole m priv rest f.framed f.start in
      let e : Ends (m ++ (priv ++ rest)) octets = record { before = h.header; parts = h.parts } in
      stands m (priv ++ rest) octets 6 size e (omega (arith, frame_length octets m priv rest f, length-append priv rest)) count

  pub priv_stands : (octets m priv rest : List ℕ) (before size : ℕ) → BeginsWithFrame a b octets m priv rest → before ≡ length m → size ≡ length priv → StandsBefore priv rest octets (6 + before) size
  priv_stands octets m priv rest before size f first count =
      let h = headed octets f.whole m priv rest f.framed f.start in
      let e : Ends (priv ++ rest) octets = record { before = h.header ++ m; parts = h.parts ∙ sym (append_assoc h.header m (priv ++ rest)) } in
      stands priv rest octets (6 + before) size e (omega (arith, frame_length octets m priv rest f, first)) count

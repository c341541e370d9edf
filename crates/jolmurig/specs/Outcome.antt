-- What a run of the program did, and with which status it ended.
use Rattle.std.specs.Prelude.{◌≡◌, ◌⊎◌, ℕ, ℤ, Bool, true, false, List, [], ◌∷◌, ◌++◌, unwrap_or, Option, None, Some, Result, Ok, Err, IsOk, MatchResult, Vec}
use Rattle.std.specs.declared.alloc.Global.{Global}
use Rattle.std.specs.Io.KnownBytes.{Appends, Keeps}
use Rattle.std.specs.declared.io.Error.{Error}
use Rattle.krb_io.specs.Transfer.{IsNotInterrupted, IsPrefixWritten}
use Rattle.krb_input.specs.Forms.{octets_of}
use Rattle.krb_show.specs.Tokens.{Token}
use Rattle.krb_show_any.specs.declared.kind.Kind.{Kind}
use Rattle.krb_show_any.specs.declared.error.PageError.{PageError}
use Rattle.krb_show_any.specs.Names.{IsNamed}
use Rattle.krb_show_any.specs.declared.kind.Kind.TheVariants as kinds
use Rattle.krb_decrypt.specs.Keys.{NamedKey}
use Rattle.krb_accept.specs.declared.settings.Settings.{Settings}
use Rattle.krb_accept_rules.specs.declared.terms.Terms.{Terms}
use Rattle.krb_accept_report.specs.Questions.{Question}
use Rattle.krb_accept_report.specs.declared.report.ReportError.{ReportError}
use Rattle.jolmurig_command.specs.Accepts.{Accept}
use Rattle.jolmurig.specs.Answers.{ArePrintableLines, IsRefused, IsWritten, Openers}
use Rattle.jolmurig.specs.Calls.{Blocks, Breaks, Converts, Lists, Opens, Passes, Places, Refuses}
use Rattle.jolmurig.specs.Checks.{IsChecked, IsUnchecked}
use Rattle.jolmurig.specs.Conversions.{IsConverted, IsUnconverted}
use Rattle.jolmurig.specs.Judgements.{IsNoService, IsService, Ticks, failure_of_report, undecided_of}
use Rattle.jolmurig.specs.Lists.{IsListed, IsUnlisted}
use Rattle.jolmurig.specs.Passages.{IsBlocked}
use Rattle.jolmurig.specs.Passwords.{ArePasswords, HasNoPassword}
use Rattle.jolmurig_command.specs.Arguments.{asked_by}
use Rattle.jolmurig.specs.Failures.{IsUnread, line_of, status_of_failure}
use Rattle.jolmurig.specs.Files.{Gives}
use Rattle.jolmurig.specs.declared.files.Purpose.TheVariants as purpose
use Rattle.jolmurig.specs.Keys.{AreKeys, HasNoKeys}
use Rattle.jolmurig_command.specs.Shows.{Show}
use Rattle.jolmurig_command.specs.declared.fault.Fault.{Fault}
use Rattle.jolmurig_command.specs.declared.command.Command.{Command}
use Rattle.jolmurig_command.specs.declared.command.Command.TheVariants as command
use Rattle.jolmurig_command.specs.declared.command.Command.TheVariants.{Help, Version}
use Rattle.jolmurig_command.specs.declared.command.Topic.{Topic}
use Rattle.jolmurig_command.specs.declared.command.Direction.{Direction}
use Rattle.jolmurig_command.specs.declared.command.Format.{Format}
use Rattle.jolmurig_command.specs.declared.command.Output.{Output}
use Rattle.jolmurig_command.specs.declared.command.Output.TheVariants as output
use Rattle.jolmurig.specs.declared.failure.Failure.{Failure}
use Rattle.jolmurig.specs.declared.failure.Failure.TheVariants.{Arguments, Memory, NoType, NotBase64, Read, Refused, Write}

-- ---- standard error, and the status

-- what a run comes to: notes, none or lines, where it succeeds
abbrev pub Outcome : Type 0
Outcome = Result (Vec ℕ Global) Failure

abbrev pub status_of : Outcome → ℕ
status_of (Ok notes) = 0
status_of (Err e) = status_of_failure e

-- a writer whose octets are known has taken the front of these
pub record HasTaken (octets : List ℕ) (before after : Option (List ℕ)) : Type 0 where
  pub front : List ℕ
  pub rest : List ℕ
  pub whole : octets ≡ front ++ rest
  pub written : Appends before after front

-- What is for standard error is told, where its octets are known (before and after): all of it was written; or the writer failed, by this
-- error, and has taken a proper prefix of it.
abbrev pub IsTold : {A : Type 0} → List ℕ → Option (List ℕ) → Option (List ℕ) → Result A Error → Type 0
IsTold octets before after told = MatchResult told (λ _. Appends before after octets) (λ e. IsNotInterrupted e × IsPrefixWritten octets before after)

-- What a run writes to standard error: nothing if it succeeds and has no notes, else these; or the line of its error, or that of an allocation
-- failure if the line of the error could not be made.
abbrev pub AreNotesWritten : {A : Type 0} → Option (List ℕ) → Option (List ℕ) → Result A Error → List ℕ → Type 0
AreNotesWritten before after told [] = IsOk told × Keeps before after
AreNotesWritten before after told (first ∷ rest) = IsTold (first ∷ rest) before after told

abbrev pub IsLineWritten : {A : Type 0} → Option (List ℕ) → Option (List ℕ) → Result A Error → Outcome → Type 0
IsLineWritten before after told (Ok notes) = AreNotesWritten before after told notes.items
IsLineWritten before after told (Err e) = IsTold (line_of e) before after told ⊎ IsTold (line_of Memory) before after told

-- ---- standard output

-- Where these octets are made, they are written, and the outcome has these notes; where there is an error nothing was written, or not all of them.
abbrev pub IsWrittenRun : (List ℕ → List ℕ → Type 0) → (Failure → Type 0) → Option (List ℕ) → Option (List ℕ) → Outcome → Type 0
IsWrittenRun makes fails before after outcome =
    MatchResult outcome (λ notes. (made : List ℕ) × makes made notes.items × Appends before after made)
    (λ e. (Keeps before after × fails e) ⊎ ((e ≡ Write) × ((made : List ℕ) × (notes : List ℕ) × makes made notes × HasTaken made before after)))

-- ---- the input

-- what is read: what the file gives, where one is named, and else what standard input has left, where that is known
abbrev pub IsInput : Gives → Option (List ℕ) → Option (List ℕ) → List ℕ → Type 0
IsInput gives (Some name) left all = gives name (Ok all)
IsInput gives None None all = Unit {0}
IsInput gives None (Some left) all = all ≡ left

-- a file that is named is not read; standard input may fail at any time
abbrev pub FailsToRead : Gives → Option (List ℕ) → Failure → Type 0
FailsToRead gives (Some name) e = IsUnread gives purpose.Input name e
FailsToRead gives None e = e ≡ Read

-- standard input is as it was where a file is named
abbrev pub IsLeft : Option (List ℕ) → Option (List ℕ) → Option (List ℕ) → Type 0
IsLeft (Some name) left rest = Keeps left rest
IsLeft None left rest = Unit {0}

-- the octets that the input stands for
abbrev pub AreRead : Gives → Option (List ℕ) → Option (List ℕ) → List ℕ → Type 0
AreRead gives file left octets = (all : List ℕ) × IsInput gives file left all × (octets_of all ≡ Some octets)

-- nothing is read
abbrev pub IsNoInput : Gives → Option (List ℕ) → Failure → Type 0
IsNoInput gives file e = (e ≡ Memory) ⊎ FailsToRead gives file e

-- why there are none
abbrev pub AreNotRead : Gives → Option (List ℕ) → Option (List ℕ) → Failure → Type 0
AreNotRead gives file left e =
    (e ≡ Memory) ⊎ FailsToRead gives file e
    ⊎ ((e ≡ NotBase64) × ((all : List ℕ) × IsInput gives file left all × (octets_of all ≡ None)))

-- Where the octets of the input make these, they are written; and the input is as it was where a file is named.
abbrev pub IsFileRun : Gives → Option (List ℕ) → (List ℕ → List ℕ → List ℕ → Type 0) → (List ℕ → Failure → Type 0)
    → Option (List ℕ) → Option (List ℕ) → Option (List ℕ) → Option (List ℕ) → Outcome → Type 0
IsFileRun gives file makes refuses left rest before after outcome =
    IsLeft file left rest
    × IsWrittenRun (λ made notes. (octets : List ℕ) × AreRead gives file left octets × makes octets made notes)
    (λ e. AreNotRead gives file left e ⊎ ((octets : List ℕ) × AreRead gives file left octets × refuses octets e)) before after outcome

-- ---- `check`

-- what is written is the octets, if they are of the kind, and the notes are their warnings; else they have no page as it
abbrev pub IsCheckRunAs : (Kind → List ℕ → Result (Vec Token Global) PageError → Type 0) → Places → Breaks → Gives → Kind → Option (List ℕ)
    → Option (List ℕ) → Option (List ℕ) → Option (List ℕ) → Option (List ℕ) → Outcome → Type 0
IsCheckRunAs tells places breaks gives kind file = IsFileRun gives file (IsChecked tells breaks kind) (IsUnchecked tells places kind)

-- of the kind that has the name; if none has, that is the error, and nothing is read and nothing written
abbrev pub IsCheckRun : (Kind → List ℕ → Result (Vec Token Global) PageError → Type 0) → Places → Breaks → Gives → List ℕ → Option (List ℕ)
    → Option (List ℕ) → Option (List ℕ) → Option (List ℕ) → Option (List ℕ) → Outcome → Type 0
IsCheckRun tells places breaks gives name file left rest before after outcome =
    (IsNamed name None × (outcome ≡ Err (NoType name)) × Keeps left rest × Keeps before after)
    ⊎ ((kind : Kind) × IsNamed name (Some kind) × IsCheckRunAs tells places breaks gives kind file left rest before after outcome)

-- ---- `list` and `convert`

-- what is written is the list of the entries of a keytab or a cache
abbrev pub IsListRun : Gives → Lists → Option (List ℕ)
    → Option (List ℕ) → Option (List ℕ) → Option (List ℕ) → Option (List ℕ) → Outcome → Type 0
IsListRun gives lists file = IsFileRun gives file (λ octets made notes. IsListed lists octets made × (notes ≡ [])) IsUnlisted

-- what is written is the octets in the format, and the notes say what is left out
abbrev pub IsConvertRun : Gives → Converts → Refuses → Format → Option (List ℕ)
    → Option (List ℕ) → Option (List ℕ) → Option (List ℕ) → Option (List ℕ) → Outcome → Type 0
IsConvertRun gives converts refuses to file = IsFileRun gives file (IsConverted converts to) (IsUnconverted refuses to)

-- ---- `proxy`

-- What is written is what a proxy passes on of the octets that are read, as they are; and the note is the line that says for whom.
abbrev pub IsProxyRun : Gives → Passes → Blocks → Direction → Option (List ℕ)
    → Option (List ℕ) → Option (List ℕ) → Option (List ℕ) → Option (List ℕ) → Outcome → Type 0
IsProxyRun gives passes blocks way file left rest before after outcome =
    IsLeft file left rest
    × IsWrittenRun (λ made notes. (octets : List ℕ) × IsInput gives file left octets × passes way octets made notes)
    (λ e. IsNoInput gives file e ⊎ ((octets : List ℕ) × IsInput gives file left octets × IsBlocked blocks way octets e)) before after outcome

-- ---- `accept`

-- what is said of a token: what is asked about it, whether its client is let in, and the line; why nothing is said of it
abbrev pub Judges : Type 1
Judges = Question → Bool → List ℕ → Type 0

abbrev pub Misjudges : Type 1
Misjudges = Question → ReportError → Type 0

abbrev pub question_of : List ℕ → List ℕ → ℤ → Terms → Settings → Question
question_of keytab octets clock terms settings = record { keytab = keytab; octets = octets; clock = clock; terms = terms; settings = settings }

-- What files give, and a clock tells.
module _ (gives : Gives) (ticks : Ticks) where
  -- this is said of the octets of the input
  pub record IsJudged (judges : Judges) (a : Accept) (left : Option (List ℕ)) (accepts : Bool) (line : List ℕ) : Type 0 where
    pub terms : Terms
    pub settings : Settings
    pub clock : ℤ
    pub keytab : List ℕ
    pub is_service : IsService gives ticks a terms settings clock keytab
    pub octets : List ℕ
    pub are_read : AreRead gives a.file left octets
    pub said : judges (question_of keytab octets clock terms settings) accepts line

  -- nothing is said: the input is not read, or the keytab is none
  pub record HasNoJudgement (misjudges : Misjudges) (a : Accept) (left : Option (List ℕ)) (e : Failure) : Type 0 where
    pub terms : Terms
    pub settings : Settings
    pub clock : ℤ
    pub keytab : List ℕ
    pub is_service : IsService gives ticks a terms settings clock keytab
    pub none : AreNotRead gives a.file left e
        ⊎ ((octets : List ℕ) × AreRead gives a.file left octets
        × ((why : ReportError) × misjudges (question_of keytab octets clock terms settings) why × (e ≡ failure_of_report why)))

  -- or there is no service, and nothing is read; or an allocation failed
  abbrev pub IsNotJudged : Misjudges → Accept → Option (List ℕ) → Option (List ℕ) → Failure → Type 0
  IsNotJudged misjudges a left rest e =
      (e ≡ Memory) ⊎ ((Keeps left rest × IsNoService gives ticks a e) ⊎ HasNoJudgement misjudges a left e)

  -- What is written is the line, with a line feed. Of one that is accepted there are no notes; of one that is refused the failure says so. Else nothing was
  -- written, or not all of it, and the failure says that nothing is decided.
  abbrev pub IsAcceptRun : Judges → Misjudges → Accept → Option (List ℕ) → Option (List ℕ) → Option (List ℕ) → Option (List ℕ) → Outcome → Type 0
  IsAcceptRun judges misjudges a left rest before after outcome =
      IsLeft a.file left rest
      × MatchResult outcome
      (λ notes. (notes.items ≡ []) × ((line : List ℕ) × IsJudged judges a left true line × Appends before after (line ++ 10 ∷ [])))
      (λ e. ((e ≡ Refused) × ((line : List ℕ) × IsJudged judges a left false line × Appends before after (line ++ 10 ∷ [])))
      ⊎ ((why : Failure) × (e ≡ undecided_of why)
      × ((Keeps before after × IsNotJudged misjudges a left rest why)
      ⊎ ((why ≡ Write) × ((accepts : Bool) × (line : List ℕ) × IsJudged judges a left accepts line × HasTaken (line ++ 10 ∷ []) before after)))))

-- what becomes of a line: it is written whole; or memory was wanting, or the writer failed
abbrev pub IsReportWritten : Bool → List ℕ → Option (List ℕ) → Option (List ℕ) → Outcome → Type 0
IsReportWritten accepts line before after outcome =
    MatchResult outcome (λ notes. (notes.items ≡ []) × (accepts ≡ true) × Appends before after (line ++ 10 ∷ []))
    (λ e. ((e ≡ Refused) × (accepts ≡ false) × Appends before after (line ++ 10 ∷ []))
    ⊎ (((e ≡ Memory) × Keeps before after) ⊎ ((e ≡ Write) × HasTaken (line ++ 10 ∷ []) before after)))

-- ---- `show`

-- the type that is asked for has this kind: none where none is asked for
abbrev pub IsKindOf : Show → Option Kind → Type 0
IsKindOf s found = by_name s.type_name s.is_tree
  where
    by_name : Option (List ℕ) → Bool → Type 0
    by_name (Some name) is_tree = (k : Kind) × IsNamed name (Some k) × (found ≡ Some k)
    by_name None true = found ≡ Some kinds.Tree
    by_name None false = found ≡ None

-- the type that is asked for is none
abbrev pub IsOfNoKind : Show → Failure → Type 0
IsOfNoKind s e = (name : List ℕ) × (s.type_name ≡ Some name) × IsNamed name None × (e ≡ NoType name)

-- the output that is asked for: lines where none is; lines and JSON with places where these are
abbrev pub placed_output : Bool → Output → Output
placed_output true output.Text = output.TextWithPlaces
placed_output true output.Json = output.JsonWithPlaces
placed_output places form = form

abbrev pub output_of : Show → Output
output_of s = placed_output s.shows_places (unwrap_or s.output output.Text)

-- what is asked to be shown has a kind, and these open what is sealed
pub record IsPrepared (gives : Gives) (s : Show) (kind : Option Kind) (openers : Openers) : Type 0 where
  pub is_kind : IsKindOf s kind
  pub are_keys : AreKeys gives 1 s.sources openers.keys
  pub are_passwords : ArePasswords gives s.password_files openers.passwords
  pub tries_all : openers.tries_all ≡ s.tries_all

-- it has a kind and keys, and the file of a password cannot be read
pub record HasNoPasswords (gives : Gives) (s : Show) (e : Failure) : Type 0 where
  pub kind : Option Kind
  pub is_kind : IsKindOf s kind
  pub keys : List NamedKey
  pub are_keys : AreKeys gives 1 s.sources keys
  pub none : HasNoPassword gives s.password_files e

-- it has no kind; or no keys; or no passwords; or an allocation failed
abbrev pub IsUnprepared : Gives → Show → Failure → Type 0
IsUnprepared gives s e =
    (e ≡ Memory) ⊎ IsOfNoKind s e ⊎ ((kind : Option Kind) × IsKindOf s kind × HasNoKeys gives 1 s.sources e)
    ⊎ HasNoPasswords gives s e

-- What octets of a kind are told as, what keys open in a page, and what files give.
module _ (tells : Kind → List ℕ → Result (Vec Token Global) PageError → Type 0) (opens : Opens) (gives : Gives) where
  -- this is written of what is asked to be shown, in printable lines
  pub record IsMade (breaks : Breaks) (s : Show) (left : Option (List ℕ)) (made : List ℕ) : Type 0 where
    pub kind : Option Kind
    pub openers : Openers
    pub prepared : IsPrepared gives s kind openers
    pub octets : List ℕ
    pub are_read : AreRead gives s.file left octets
    pub is_written : IsWritten tells opens breaks kind (output_of s) s.shows_keys openers octets made
    pub printable : ArePrintableLines made

  -- the input is rejected: it is not read, or has no page
  pub record IsInputRejected (places : Places) (s : Show) (left : Option (List ℕ)) (e : Failure) : Type 0 where
    pub kind : Option Kind
    pub openers : Openers
    pub prepared : IsPrepared gives s kind openers
    pub rejected : AreNotRead gives s.file left e ⊎ ((octets : List ℕ) × AreRead gives s.file left octets × IsRefused tells opens places kind octets e)

  -- why nothing is written of it; where it has no kind or no keys, nothing is read from standard input
  abbrev pub IsNotMade : Places → Show → Option (List ℕ) → Option (List ℕ) → Failure → Type 0
  IsNotMade places s left rest e = (Keeps left rest × IsUnprepared gives s e) ⊎ IsInputRejected places s left e

  -- what is written is what the input is shown as, and the input is as it was where a file is named
  abbrev pub IsShowRun : Breaks → Places → Show → Option (List ℕ) → Option (List ℕ) → Option (List ℕ) → Option (List ℕ) → Outcome → Type 0
  IsShowRun breaks places s left rest before after outcome =
      IsLeft s.file left rest × IsWrittenRun (λ made notes. IsMade breaks s left made × (notes ≡ [])) (IsNotMade places s left rest) before after outcome

  -- ---- the whole

  module _ (places : Places) (breaks : Breaks) (lists : Lists) (converts : Converts) (refuses : Refuses) (passes : Passes) (blocks : Blocks)
      (judges : Judges) (misjudges : Misjudges) (ticks : Ticks) where
    -- A run of this command, or with this fault of the arguments, over an input (`rest` of it is left), where its octets and those of the output (before and after) are known.
    abbrev pub IsRun : Result Command Fault → (Topic → List ℕ) → List ℕ → Option (List ℕ) → Option (List ℕ) → Option (List ℕ) → Option (List ℕ) → Outcome → Type 0
    IsRun (Err fault) help version input rest before after outcome = (outcome ≡ Err (Arguments fault)) × Keeps input rest × Keeps before after
    IsRun (Ok (Help page)) help version input rest before after outcome =
        Keeps input rest × IsWrittenRun (λ made notes. (made ≡ help page) × (notes ≡ [])) (λ e. ⊥) before after outcome
    IsRun (Ok Version) help version input rest before after outcome =
        Keeps input rest × IsWrittenRun (λ made notes. (made ≡ version) × (notes ≡ [])) (λ e. ⊥) before after outcome
    IsRun (Ok (command.Show s)) help version input rest before after outcome = IsShowRun breaks places s input rest before after outcome
    IsRun (Ok (command.Check name file)) help version input rest before after outcome = IsCheckRun tells places breaks gives name file input rest before after outcome
    IsRun (Ok (command.List file)) help version input rest before after outcome = IsListRun gives lists file input rest before after outcome
    IsRun (Ok (command.Convert to file)) help version input rest before after outcome =
        IsConvertRun gives converts refuses to file input rest before after outcome
    IsRun (Ok (command.Proxy way file)) help version input rest before after outcome = IsProxyRun gives passes blocks way file input rest before after outcome
    IsRun (Ok (command.Accept a)) help version input rest before after outcome = IsAcceptRun gives ticks judges misjudges a input rest before after outcome

    -- A run with these arguments: that of the command that they ask for; or no memory was left to read them.
    abbrev pub IsRunOf : List (List ℕ) → (Topic → List ℕ) → List ℕ → Option (List ℕ) → Option (List ℕ) → Option (List ℕ) → Option (List ℕ) → Outcome → Type 0
    IsRunOf arguments help version input rest before after outcome =
        IsRun (asked_by arguments) help version input rest before after outcome ⊎ ((outcome ≡ Err Memory) × Keeps input rest × Keeps before after)

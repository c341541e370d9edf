use Rattle.std.proofs.Common.{◌≡◌, drop}
use Rattle.krb_file_tools.specs.Kirbi.{each_of}
use Rattle.krb_file_tools.specs.Message.{text_from}
use Rattle.krb_file_tools.proofs.Lists.{after}
use Rattle.krb_file_tools.proofs.convert.message.texts_of.Given as goal

-- the texts so far, before what is still to be done
abbrev pub invariant-loop-component : goal.invariant-loop-component
invariant-loop-component l =
    after l.texts.items (each_of (λ x. text_from x.now) (drop l.component-index l.components)) ≡ each_of (λ x. text_from x.now) l.components

use Rattle.krb_show_tokens.proofs.kpasswd.frame.page_of_messages.Goals as goal

pub returns : goal.returns
returns c =
    rw (
      c.numbers_before-numbers.ensures.message_length,
      c.numbers_before-numbers.ensures.version,
      c.numbers_before-numbers.ensures.first_length,
      c.new-label.ensures,
      c.new-page.ensures.items,
    ) at c.in_ok-show_messages.ensures

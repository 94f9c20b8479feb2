use Rattle.constants.proofs.Laws.{span-unread, text-record}
use Rattle.constants.proofs.constant_text.Goals as goal

pub returns-in_err-span : goal.returns-in_err-span
returns-in_err-span c = span-unread c.in_err-span.was c.from_residual.ensures.1 c.span_str.ensures

pub returns : goal.returns
returns c = text-record c.in_ok-span.was c.span_str.ensures

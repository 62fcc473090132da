use Rattle.std.proofs.Common.{◌≡◌, cond, [], length, is_ok, rules}
use Rattle.alphabet.specs.Choices.{choices, packed}
use Rattle.sink.specs.Meaning.{nothing, fronted, pour_answer}
use Rattle.sink.specs.BitsMeaning.{bits_meaning, unfilled}
use Rattle.sink.specs.Writing.{write_answer, stocks_then}
use Rattle.sink.proofs.Filing.{written_all, filed_all}
use Rattle.sink.proofs.writing.file_bits.Goals as goal

pub returns-clause-filed : goal.returns-clause-filed
returns-clause-filed c xs e =
    let items = c.args.items.now in
    let old = c.args.buffer.now in
    let r = c.hand_and_pour.result in
    let answered : r ≡ write_answer bits_meaning (unfilled []) nothing items 0 (length old) = search rules in
    let poured : c.hand_and_pour.new.buffer ≡ cond (is_ok r) (fronted (stocks_then bits_meaning (unfilled []) nothing items 0) old) old = search rules in
    written_all bits_meaning (unfilled []) nothing items 0 r (pour_answer bits_meaning (stocks_then bits_meaning (unfilled []) nothing items) 0 (length old))
    (packed (choices items)) old c.hand_and_pour.new.buffer answered poured (filed_all xs items e)

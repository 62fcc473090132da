use Rattle.std.proofs.Common.{◌≡◌, cond, length, is_ok, ap, rules}
use Rattle.sink.specs.Meaning.{Stocks, nothing, fronted, pour_answer}
use Rattle.sink.specs.Writing.{write_answer, stocks_then}
use Rattle.sink.proofs.Filing.{written_all}
use Rattle.text.specs.TextMeaning.{text_meaning, text_of_items}
use Rattle.text.specs.TextState.{start_of}
use Rattle.text.proofs.Taking.{adds_text}
use Rattle.text.proofs.writing.write_text.Goals as goal

pub returns-clause-written : goal.returns-clause-written
returns-clause-written c =
    let items = c.args.items.now in
    let old = c.args.buffer.now in
    let r = c.hand_and_pour.result in
    let start = start_of c.args.pattern.now c.args.manner in
    let answered : r ≡ write_answer text_meaning start nothing items 0 (length old) = search rules in
    let poured : c.hand_and_pour.new.buffer ≡ cond (is_ok r) (fronted (stocks_then text_meaning start nothing items 0) old) old = search rules in
    written_all text_meaning start nothing items 0 r (pour_answer text_meaning (stocks_then text_meaning start nothing items) 0 (length old))
    (text_of_items start items) old c.hand_and_pour.new.buffer answered poured (λ _. ap (λ (s : Stocks). s 0) (adds_text start items))

use Rattle.decoder.proofs.OwnTexts.{page_texts, line_texts, same_text}
use Rattle.decoder.proofs.law.objects_are_their_texts.Goals as goal

pub returns : goal.returns
returns c = record {
  listed = λ wanted bytes p is. page_texts wanted bytes p is;
  watched = λ wanted bytes l is. line_texts wanted bytes l is;
  same = λ wanted o p first second texts. same_text wanted o p first second texts;
}

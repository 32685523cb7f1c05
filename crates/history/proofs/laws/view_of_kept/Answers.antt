use Rattle.history.proofs.Views.{kept_states, kept_later, kept_view, sound_view, view_states}
use Rattle.history.proofs.laws.view_of_kept.Goals as goal

pub returns : goal.returns
returns c = record {
  states = λ h c r is le. kept_states c r h.current h.changes is.rising le;
  later = λ h c r is le. kept_later c r h.current h.changes is.rising le;
  same = kept_view;
  within = view_states;
  sound = sound_view;
}

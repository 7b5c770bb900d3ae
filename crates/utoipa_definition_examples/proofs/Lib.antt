mod ExampleTrees
mod ExamplesLeaves
mod ExamplesSchemas
mod ExamplesSecurity
mod ExamplesPaths
